-- Lists of lists, as they are kept and as they are seen.
use Rattle.std.proofs.Common.{◌≡◌, ℕ, ◌<◌, List, [], length, map, get_or}
use Rattle.std.proofs.Common.{ap, sym, ◌∙◌, arith, Vec, Global}
use Rattle.std.specs.Prelude.{slice_get, Some}
use Rattle.std.proofs.lemmas.List.{get_or-map, length-map}
use Rattle.std.proofs.lemmas.Option.{slice_get-get_or}

module _ {X : Type 0} where
  -- the lists that are kept
  abbrev pub kept : List (Vec X Global) → List (List X)
  kept lists = map (λ (own : Vec X Global). own.items) lists

  pub kept_count : (lists : List (Vec X Global)) → length (kept lists) ≡ length lists
  kept_count lists = length-map lists (λ (own : Vec X Global). own.items)

  pub kept_own : (lists : List (Vec X Global)) (index : ℕ) (own : Vec X Global)
      → index < length lists → own ≡ get_or lists index own
      → get_or (kept lists) index [] ≡ own.items
  kept_own lists index own less is =
      get_or-map (λ (v : Vec X Global). v.items) lists index own [] less
      ∙ ap (λ (v : Vec X Global). v.items) (sym is)

  pub kept_at : (lists : List (Vec X Global)) (index : ℕ) (own : Vec X Global)
      → index < length lists → own ≡ get_or lists index own
      → slice_get (kept lists) index ≡ Some own.items
  kept_at lists index own less is =
      slice_get-get_or (kept lists) index [] (omega (arith, less, kept_count lists))
      ∙ ap (λ (o : List X). Some o) (kept_own lists index own less is)
