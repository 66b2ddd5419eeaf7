-- What each step of the plain program knows of a record.
use Rattle.std.proofs.Common.{◌≡◌, ℕ, suc, ◌+◌, ◌*◌, ◌^◌, ◌<◌, ◌≤◌, List, [], ◌∷◌, ◌++◌, length}
use Rattle.std.proofs.Common.{◌-◌, take, drop, map, get_or, refl, ap, sym, ◌∙◌, arith}
use Rattle.std.specs.Prelude.{Some, slice_get, Result, Ok, Err, IfOk}
use Rattle.std.proofs.Math.Nat.{mul-le-mul}
use Rattle.std.proofs.lemmas.List.{length-map, drop-take}
use Rattle.std.proofs.lemmas.Option.{slice_get-get_or}
use Rattle.fold_law.specs.declared.limits.TheConstants.{SESSIONS, QUOTA}
use Rattle.std.proofs.lemmas.Grind.{get_or_default_zero}
use Rattle.stamp_word.specs.Word.{stamp_in}
use Rattle.stamp_word.specs.Places.{place_of}
use Rattle.node_rule.specs.declared.view.View.{View}
use Rattle.node_rule.specs.declared.view.Plan.{Plan}
use Rattle.node_rule.specs.Sums.{posted}
use Rattle.node_rule.specs.Standing.{plan_of}
use Rattle.node_rule.specs.Fronts.{IsDeep}
use Rattle.node_rule.proofs.Bounds.{stamp_most}
use Rattle.node_rule.proofs.Places.{place-in}
use Rattle.node_rule.proofs.Tree.{deep-within}
use Rattle.f_array.specs.declared.record.Record.{Record}
use Rattle.f_array.specs.Records.{Did}
use Rattle.trail_replay.specs.Blocks.{block_from, lines_to}
use Rattle.trail_replay.specs.Fronts.{front_of, view_of, last_stamp, IsStampedRecord}
use Rattle.trail_replay.specs.Histories.{posts_of_tree, lines_of_tree}
use Rattle.trail_replay.proofs.BlockLaws.{AreFronts}
use Rattle.trail_replay.proofs.Counts.{lines_few}
use Rattle.trail_replay.proofs.StampFronts.{are_fronts, posts_few}
use Rattle.trail_replay.proofs.Tracks.{slice_get-map_some}

-- an element of a list that is told by its own place stands in the mapped list
pub item_at : {A B : Type 0} (f : A → B) (xs : List A) (ys : List B) (i : ℕ) (x : A) → map f xs ≡ ys
    → i < length xs → x ≡ get_or xs i x → slice_get ys i ≡ Some (f x)
item_at f xs ys i x same less is =
    ap (λ zs. slice_get zs i) (sym same)
    ∙ slice_get-map_some f xs i x
    (slice_get-get_or xs i x less ∙ ap (λ z. Some z) (sym is))

-- a part of a list, said in two ways
pub part-between : (before upto : ℕ) (values : List ℕ) → before ≤ upto
    → take (upto - before) (drop before values) ≡ drop before (take upto values)
part-between before upto values le =
    let same : before + (upto - before) ≡ upto = omega arith in
    sym (drop-take before (upto - before) values)
    ∙ ap (λ n. drop before (take n values)) same

-- the lines up to the next stamp
pub lines_to-next : (front : ℕ → ℕ → ℕ) (posts : List (List ℕ)) (stamp : ℕ)
    → lines_to front posts stamp ++ block_from (front stamp) (front (stamp + 1)) 0 posts
    ≡ lines_to front posts (stamp + 1)
lines_to-next front posts stamp =
    let next : stamp + 1 ≡ suc stamp = omega arith in
    ap (λ n. lines_to front posts stamp ++ block_from (front stamp) (front n) 0 posts) next
    ∙ ap (lines_to front posts) (sym next)

root_within : (levels : ℕ) → 1 < 2 * 2 ^ levels
root_within levels =
    let deep : IsDeep 0 1 = record { low = omega arith; high = omega arith } in
    (deep-within 0 levels 1 (omega arith) deep).high

module _ (taken : Record) (stamped : IsStampedRecord taken) (tree : ℕ)
    (tree_in : tree < taken.shape.trees) where
  abbrev words : List ℕ
  words = taken.words.items

  abbrev passes : List Did
  passes = taken.passes.items

  abbrev views : List View
  views = view_of taken.shape.levels passes ∷ []

  abbrev plan : Plan
  plan = plan_of taken.shape.levels taken.shape.trees (length passes) stamped.0

  abbrev front : ℕ → ℕ → ℕ
  front = front_of taken.shape.levels passes tree

  abbrev posts : List (List ℕ)
  posts = posts_of_tree tree passes

  fronts : AreFronts front posts (last_stamp taken tree)
  fronts = are_fronts plan taken.words.items passes stamped.1 refl tree tree_in

  -- a stamp has room above it in a u32
  pub last_few : last_stamp taken tree ≤ QUOTA * SESSIONS
  last_few =
      stamp_most plan taken.words.items views stamped.1 tree 1 tree_in (omega arith)
      (root_within taken.shape.levels)

  -- a history has fewer lines than a u32 can count
  pub lines_count : (stamp : ℕ) → stamp ≤ last_stamp taken tree
      → length (lines_of_tree taken tree stamp) < 2 ^ 32
  lines_count stamp le =
      let most = lines_few front posts (last_stamp taken tree) fronts stamped.0 stamp le
      (posts_few plan taken.words.items passes stamped.1 refl tree tree_in) in
      let long = length-map passes (λ (did : Did). posted tree did.calls) in
      let few = stamped.1.planned.few in
      let quota = stamped.1.planned.quota in
      let bound : stamped.0 * length posts ≤ QUOTA * SESSIONS =
      mul-le-mul {n₁ = stamped.0} {m₁ = length posts} {n₂ = QUOTA} {m₂ = SESSIONS} quota
      (omega arith) in
      omega arith

  -- the root has a word
  pub root_in : place_of taken.shape.levels tree 1 < length taken.words.items
  root_in =
      let inside = place-in taken.shape.levels taken.shape.trees tree 1 tree_in
      (root_within taken.shape.levels) in
      omega (arith, stamped.1.width)

  -- the stamp of the root's word
  pub root_stamp : (root at stamp : ℕ) → stamp ≡ stamp_in root → root ≡ get_or words at root
      → at ≡ place_of taken.shape.levels tree 1 → stamp ≡ last_stamp taken tree
  root_stamp root at stamp is found place =
      is
      ∙ ap stamp_in (found
      ∙ (ap (λ n. get_or words n root) place
      ∙ get_or_default_zero words (place_of taken.shape.levels tree 1) root root_in))

pub if_ok_both : {T E : Type 0} (P Q R : T → Type 0) (r : Result T E)
    → ((x : T) → P x → Q x → R x) → IfOk r P → IfOk r Q → IfOk r R
if_ok_both P Q R (Ok x) f p q = f x p q
if_ok_both P Q R (Err e) f p q = tt
