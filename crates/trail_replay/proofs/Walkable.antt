-- A history can be walked: its lines are of sessions that have a component, and of capped values.
use Rattle.std.proofs.Common.{ℕ, zero, suc, ◌+◌, ◌<◌, ◌≤◌, ◌==◌, Bool, true, false, List, [], ◌∷◌}
use Rattle.std.proofs.Common.{length, take, drop, refl, arith}
use Rattle.std.specs.List.{AllByRecursion}
use Rattle.std.proofs.lemmas.List.{length-map}
use Rattle.fold_law.specs.declared.limits.TheConstants.{SESSIONS}
use Rattle.risk_board.specs.declared.hand.Line.{Line}
use Rattle.risk_board.specs.declared.hand.Call.{Call}
use Rattle.risk_board.specs.declared.hand.Call.TheVariants.{Post, Read}
use Rattle.risk_board.specs.History.{own_lines}
use Rattle.node_rule.specs.declared.view.Plan.{Plan}
use Rattle.node_rule.specs.declared.view.Track.{Track}
use Rattle.node_rule.specs.Views.{pick}
use Rattle.node_rule.specs.Sums.{Each, posted}
use Rattle.node_rule.specs.Fronts.{value_at}
use Rattle.node_rule.specs.Standing.{plan_of}
use Rattle.node_rule.specs.ValuePart.{IsCallValued}
use Rattle.f_array.specs.declared.record.Record.{Record}
use Rattle.f_array.specs.Records.{Did}
use Rattle.trail_replay.specs.Arrays.{AreLines}
use Rattle.trail_replay.specs.Blocks.{block_from, lines_to}
use Rattle.trail_replay.specs.Fronts.{tracks_from, view_of, front_of, IsLawful}
use Rattle.trail_replay.specs.Histories.{posts_of_tree, lines_of_tree}
use Rattle.trail_replay.proofs.BlockLaws.{all-append}
use Rattle.trail_replay.proofs.WalkLaws.{all-take, all-drop}

abbrev Capped : ℕ → List ℕ → Type 0
Capped cap values = AllByRecursion (λ value. value ≤ cap) values

module _ (cap most : ℕ) where
  abbrev Fits : Line → Type 0
  Fits line = (line.session < most) × (line.value ≤ cap)

  own_fit : (session index : ℕ) (values : List ℕ) → session < most → Capped cap values
      → AllByRecursion Fits (own_lines session index values)
  own_fit session index [] less capped = tt
  own_fit session index (x ∷ values) less capped =
      ((less, capped.0), own_fit session (index + 1) values less capped.1)

  block_fits : (before upto : ℕ → ℕ) (first : ℕ) (posts : List (List ℕ))
      → first + length posts ≤ most → AllByRecursion (Capped cap) posts
      → AllByRecursion Fits (block_from before upto first posts)
  block_fits before upto first [] few capped = tt
  block_fits before upto first (values ∷ posts) few capped =
      all-append Fits _ _
      (own_fit first (before first + 1) (drop (before first) (take (upto first) values))
      (omega arith) (all-drop (λ value. value ≤ cap) (take (upto first) values) (before first)
      (all-take (λ value. value ≤ cap) values (upto first) capped.0)))
      (block_fits before upto (first + 1) posts (omega arith) capped.1)

  lines_fit : (front : ℕ → ℕ → ℕ) (posts : List (List ℕ)) (stamp : ℕ) → length posts ≤ most
      → AllByRecursion (Capped cap) posts → AllByRecursion Fits (lines_to front posts stamp)
  lines_fit front posts zero few capped = tt
  lines_fit front posts (suc stamp) few capped =
      all-append Fits _ _ (lines_fit front posts stamp few capped)
      (block_fits (front stamp) (front (suc stamp)) 0 posts (omega arith) capped)

module _ (plan : Plan) (cap : ℕ) (value : ℕ → ℕ → ℕ → ℕ → ℕ) (tree : ℕ) where
  pick_capped : (b : Bool) (v : ℕ) (values : List ℕ) → v ≤ cap → Capped cap values
      → Capped cap (pick b (v ∷ values) values)
  pick_capped true v values first rest = (first, rest)
  pick_capped false v values first rest = rest

  posted_capped : (calls : List Call) → Each (IsCallValued plan cap value) calls
      → Capped cap (posted tree calls)
  posted_capped [] valued = tt
  posted_capped (Post t v ∷ calls) valued =
      pick_capped (t == tree) v (posted tree calls) valued.0 (posted_capped calls valued.1)
  posted_capped (Read t stamp v ∷ calls) valued = posted_capped calls valued.1

  posts_capped : (first : ℕ) (passes : List Did)
      → Each (λ (track : Track). Each (IsCallValued plan cap value) track.calls)
      (tracks_from first passes)
      → AllByRecursion (Capped cap) (posts_of_tree tree passes)
  posts_capped first [] valued = tt
  posts_capped first (did ∷ passes) valued =
      (posted_capped did.calls valued.0, posts_capped (first + 1) passes valued.1)

-- of every lawful record
pub walkable : (unit cap : ℕ) (join : ℕ → ℕ → ℕ) (taken : Record) (tree stamp : ℕ)
    → IsLawful unit cap join taken → AreLines cap (lines_of_tree taken tree stamp)
walkable unit cap join taken tree stamp lawful =
    let passes = taken.passes.items in
    let wide = length-map passes (λ (did : Did). posted tree did.calls) in
    let few = lawful.kept.stamps.planned.few in
    let plan = plan_of taken.shape.levels taken.shape.trees (length passes) lawful.quota in
    lines_fit cap SESSIONS (front_of taken.shape.levels passes tree) (posts_of_tree tree passes)
    stamp (omega arith)
    (posts_capped plan cap
    (value_at taken.shape.levels unit join (view_of taken.shape.levels passes ∷ [])) tree 0 passes
    (lawful.kept.values.each 0 (view_of taken.shape.levels passes) refl).calls)
