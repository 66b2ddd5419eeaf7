-- Acts that differ in the places of their reads alone are as many, and end alike.
use Rattle.std.proofs.Common.{◌≡◌, ℕ, List, [], ◌∷◌, ◌++◌, map, refl, sym, ap}
use Rattle.std.proofs.Common.{◌∙◌, inl, inr}
use Rattle.risk_journal.specs.declared.acts.Act.{Act}
use Rattle.risk_journal.specs.declared.acts.Act.TheVariants.{Ended}
use Rattle.risk_journal.specs.declared.acts.End.{End}
use Rattle.risk_journal.specs.ActLists.{placed_by}
use Rattle.gate_files.specs.Objects.{ObjectsValue, AreCounts}
use Rattle.session_tasks.specs.Rules.{EndsAs}
use Rattle.gate_files.proofs.Lists.{mapped_at}

-- the last act stays with places
ends_placed : (place : ℕ → ℕ → ℕ) (front : List Act) (end : End)
    → map (placed_by place) (front ++ Ended end ∷ [])
    ≡ map (placed_by place) front ++ Ended end ∷ []
ends_placed place [] end = refl
ends_placed place (act ∷ front) end =
    ap (λ (l : List Act). placed_by place act ∷ l) (ends_placed place front end)

-- acts with places of their reads end as they do without
pub end_placed : (place : ℕ → ℕ → ℕ) (acts : List Act) (end : End) → EndsAs acts end
    → EndsAs (map (placed_by place) acts) end
end_placed place acts end (inl (front, is)) =
    inl (map (placed_by place) front, ap (map (placed_by place)) is ∙ ends_placed place front end)
end_placed place acts end (inr (none, memory)) = inr (ap (map (placed_by place)) none, memory)

-- counts that are taken of inputs are those of the inputs' type
pub counts_of : {S X : Type 0} (faults : S → ℕ) (f : X → ObjectsValue) (input : X → S)
    → ((x : X) → (f x).input_faults ≡ faults (input x)) → (all : List X)
    → AreCounts faults (map f all)
counts_of faults f input same all session own is =
    let (x, at, one) = mapped_at f all session own is in
    (input x, ap (λ (o : ObjectsValue). o.input_faults) (sym one) ∙ same x)
