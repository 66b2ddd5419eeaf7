-- The names that are given back are there.
use Rattle.std.proofs.Common.{refl, subst, sym, ◌∙◌}
use Rattle.std.specs.Prelude.{IsSome, codes}
use Rattle.gate_ports.specs.Names.{Texts}
use Rattle.file_tests.proofs.port_tests.a_folder_in_memory_gives_back_its_texts.Goals as goal

pub done-requires-clause-there : goal.done-requires-clause-there
done-requires-clause-there g c =
    let IsIn : Texts → Type 0 = λ texts. IsSome (texts (codes "in")) in
    subst IsIn (sym (c.open.ensures.texts ∙ c.in_ok-put.ensures.ok)) refl

pub close-requires-clause-there : goal.close-requires-clause-there
close-requires-clause-there g c =
    let IsIn : Texts → Type 0 = λ texts. IsSome (texts (codes "out")) in
    subst IsIn (sym c.in_ok-output.ensures.ok) refl
