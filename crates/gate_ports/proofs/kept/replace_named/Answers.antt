use Rattle.std.proofs.Common.{arith}
use Rattle.std.proofs.lemmas.Map.Text.{text_keys}
use Rattle.gate_ports.proofs.kept.replace_named.Goals as goal

pub returns-in-Some : goal.returns-in-Some
returns-in-Some c = record { each = λ q. grind (arith, text_keys) }
