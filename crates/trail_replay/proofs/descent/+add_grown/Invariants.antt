-- each step down is one nearer to the leaves
use Rattle.trail_replay.proofs.descent.+add_grown.Given as goal

abbrev pub decreases-add_grown : goal.decreases-add_grown
decreases-add_grown l = l.under.height
