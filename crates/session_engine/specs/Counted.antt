-- What a session counts before its first frame.
use Rattle.session_engine.specs.declared.counts.Counts.{Counts}

-- nothing is counted yet
abbrev pub no_counts : Counts
no_counts = record { frames = 0; orders = 0; venue = 0; client = 0; firms = 0 }
