-- What the trails of a record say of one node and stamp, as a sum over all installs.
use Rattle.std.specs.Prelude.{ℕ, List}
use Rattle.node_rule.specs.declared.view.Install.{Install}
use Rattle.node_rule.specs.Sums.{total, read_by}
use Rattle.f_array.specs.Records.{Did}

-- the stamp at which the install of the child's parent with this stamp read the child
abbrev pub read_in : ℕ → ℕ → ℕ → List Install → ℕ
read_in tree child stamp trail = total (read_by tree child stamp) trail

-- over the trails of all passes
abbrev pub read_in_all : ℕ → ℕ → ℕ → List Did → ℕ
read_in_all tree child stamp passes = total (λ did. read_in tree child stamp did.trail) passes
