use Rattle.std.proofs.lemmas.Bool.Decides.{Decides-eqb}
use Rattle.std.proofs.lemmas.Slice.Eq.{strip_prefix_is}
use Rattle.gate_files.proofs.words.name_within.Goals as goal

pub returns : goal.returns
returns c =
    rw (← c.as_bytes.ensures.value, ← c.as_bytes-2.ensures.value)
    (strip_prefix_is Decides-eqb c.as_bytes.result.now c.as_bytes-2.result.now _
    c.strip_prefix.ensures.cases)
