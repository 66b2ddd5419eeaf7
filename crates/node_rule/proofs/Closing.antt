-- Once every session was joined, the rule holds of the words and the keeper's view alone.
use Rattle.std.proofs.Common.{◌≡◌, ℕ, zero, suc, List, [], ◌∷◌, set, length, refl, sym, ◌∙◌, subst, arith}
use mathlib.Core.Option.{some, some-injective, some-ne-none}
use lib.ListN.{get_elem?}
use Rattle.std.specs.Prelude.{Result, Ok, Err, IfOk}
use Rattle.atomic_table.specs.Table.{State, Final, Seen}
use Rattle.stamp_word.specs.Word.{stamp_in}
use Rattle.node_rule.specs.declared.view.View.{View}
use Rattle.node_rule.specs.declared.view.View.TheVariants.{Keeper, Spent}
use Rattle.node_rule.specs.declared.view.Track.{Track}
use Rattle.node_rule.specs.declared.view.Plan.{Plan}
use Rattle.node_rule.specs.Views.{tracks_of, given_of}
use Rattle.node_rule.specs.Sums.{total, over, seen_in, times_in, installs_in, posts_of, post_of, stands_in}
use Rattle.node_rule.specs.Fronts.{Board, board_of, word_at}
use Rattle.node_rule.specs.StampPart.{IsGrown, IsView, RefreshesAny}
use Rattle.node_rule.specs.ValuePart.{IsViewValued, IsKept}
use Rattle.node_rule.proofs.SumLemmas.{over-set}
use Rattle.node_rule.proofs.Adding.{total-zero}
use Rattle.node_rule.proofs.Dealing.{given-keeper}
use Rattle.node_rule.proofs.DealtValues.{revalued}

total-ones : (tracks : List Track) → total (λ (t : Track). 1) tracks ≡ length tracks
total-ones [] = refl
total-ones (t ∷ ts) = let more = total-ones ts in omega arith

no_tracks : (f : Track → ℕ) (tracks : List Track) → total (λ (t : Track). 1) tracks ≡ 0
    → total f tracks ≡ 0
no_tracks f [] e = refl
no_tracks f (t ∷ ts) e = absurd (omega arith)

module _ (plan : Plan) (unit cap : ℕ) (join : ℕ → ℕ → ℕ) (words : List ℕ) (views : List View)
    (seat levels given : ℕ) (joined : List Track)
    (h : IsKept plan unit cap join words views)
    (at : get_elem? views seat ≡ some (Keeper levels given joined))
    (all : length joined ≡ given) where
  abbrev keeper : View
  keeper = Keeper levels given joined

  count : total given_of views ≡ given
  count = given-keeper views seat levels given joined h.stamps.numbers.one_keeper at

  -- every track is the keeper's
  pub over-joined : (f : Track → ℕ) → over f (keeper ∷ []) ≡ over f views
  over-joined f =
      let ones = over-set (λ (t : Track). 1) views seat keeper Spent at in
      let here = over-set f views seat keeper Spent at in
      let joined_ones = total-ones joined in
      let tracks = h.stamps.numbers.tracks in let c = count in
      let rest : over f (set views seat Spent) ≡ 0 =
      total-zero (λ v. total (λ (t : Track). 1) (tracks_of v)) (λ v. total f (tracks_of v))
      (λ v. no_tracks f (tracks_of v)) (set views seat Spent) (omega arith) in
      omega arith

  board-joined : board_of plan.levels words (keeper ∷ []) ≡ board_of plan.levels words views
  board-joined = λ k. record {
    stamp = λ tree node. stamp_in (word_at plan.levels words tree node);
    seen = λ tree child stamp. over-joined (seen_in tree child stamp) k;
    times = λ tree node stamp. over-joined (times_in tree node stamp) k;
    installs = λ tree node. over-joined (installs_in tree node) k;
    posts = λ number tree. over-joined (posts_of number tree) k;
  }

  only : (P : View → Type 0) → P keeper → (j : ℕ) (v : View) → get_elem? (keeper ∷ []) j ≡ some v
      → P v
  only P p zero v e = subst P (some-injective _ _ e) p
  only P p (suc j) v e = absurd (some-ne-none v (sym e))

  pub closes : IsKept plan unit cap join words (keeper ∷ [])
  closes = record {
    stamps = record {
      planned = h.stamps.planned;
      width = h.stamps.width;
      grown = subst (IsGrown plan) (sym board-joined) h.stamps.grown;
      each = subst (λ (b : Board). (j : ℕ) (v : View) → get_elem? (keeper ∷ []) j ≡ some v
          → IsView plan b v) (sym board-joined)
          (only (IsView plan (board_of plan.levels words views)) (h.stamps.each seat keeper at));
      pairs = λ j k v w e d. only (λ u. RefreshesAny u w) tt j v e;
      numbers = let c = count in record {
        one_keeper = refl;
        given = let g = h.stamps.numbers.given in omega arith;
        tracks = let t = h.stamps.numbers.tracks in let o = over-joined (λ t'. 1) in omega arith;
        once = λ number less. over-joined (stands_in number)
            ∙ h.stamps.numbers.once number (omega arith);
        no_other = λ number more. over-joined (stands_in number)
            ∙ h.stamps.numbers.no_other number (omega arith);
      };
    };
    values = revalued plan unit cap join words views (keeper ∷ [])
        (λ tree child stamp. over-joined (seen_in tree child stamp))
        (λ number tree index. over-joined (post_of number tree index)) h.values
        (only (IsViewValued plan cap _) (h.values.each seat keeper at));
  }

-- what the table gives when it closes
pub close_kept : (key plan : Plan) (unit cap : ℕ) (join : ℕ → ℕ → ℕ) → key ≡ plan
    → (id : ℕ) (view : View) (words : List ℕ) (slots : List (Unit {0})) (levels given : ℕ)
    (joined : List Track) → view ≡ Keeper levels given joined → length joined ≡ given
    → Final (Seen (λ (s : State (Unit {0}) View). IsKept key unit cap join s.words s.views) id view)
    words slots → IsKept plan unit cap join words (view ∷ [])
close_kept key plan unit cap join e id view words slots levels given joined is all final =
    let s = final.0 in
    let at = subst (λ (v : View). get_elem? s.views id ≡ some v) is final.1.1 in
    subst (λ (z : Plan × List ℕ × View). IsKept z.0 unit cap join z.1 (z.2 ∷ []))
    (λ i. (e i, final.2 i, sym is i))
    (closes key unit cap join s.words s.views id levels given joined final.1.0 at all)

pub if_ok : {T E : Type 0} (P Q : T → Type 0) (r : Result T E) → ((x : T) → P x → Q x) → IfOk r P
    → IfOk r Q
if_ok P Q (Ok x) f h = f x h
if_ok P Q (Err x) f h = tt
