-- A read of the root keeps the stamp part.
use Rattle.std.proofs.Common.{◌≡◌, ℕ, ◌+◌, ◌<◌, ◌≤◌, List, [], ◌∷◌, length, take, set, None, refl, sym, ap, ◌∙◌, subst, ⊎_elim, arith}
use mathlib.Core.Option.{some}
use lib.ListN.{get_elem?}
use Rattle.std.specs.Prelude.{◌==◌}
use Rattle.stamp_word.specs.Places.{leaf_of}
use Rattle.node_rule.specs.declared.view.View.{View}
use Rattle.node_rule.specs.declared.view.View.TheVariants.{Session}
use Rattle.risk_board.specs.declared.hand.Call.{Call}
use Rattle.risk_board.specs.declared.hand.Call.TheVariants.{Read}
use Rattle.node_rule.specs.declared.view.Track.{Track}
use Rattle.node_rule.specs.declared.view.Plan.{Plan}
use Rattle.node_rule.specs.Views.{called}
use Rattle.node_rule.specs.Sums.{installs_in, when, posts_in}
use Rattle.node_rule.specs.Fronts.{Board, board_of, cover}
use Rattle.node_rule.specs.StampPart.{IsCall, IsTrack, IsStamped}
use Rattle.node_rule.proofs.Quiet.{keeps_sums}
use Rattle.node_rule.proofs.Arrival.{fresh_onward, fresh_back}
use Rattle.node_rule.proofs.CallLists.{at_end, take-shorter, take-whole, posted-read}

module _ (plan : Plan) (words : List ℕ) (views : List View) (seat levels : ℕ) (track : Track)
    (tree stamp value : ℕ) (h : IsStamped plan words views)
    (at : get_elem? views seat ≡ some (Session levels track None))
    (tree_in : tree < plan.trees) where
  abbrev b : Board
  b = board_of plan.levels words views

  abbrev after : Track
  after = called track (Read tree stamp value)

  posts-same : (t : ℕ) → posts_in t after ≡ posts_in t track
  posts-same t = ap length (posted-read t track.calls tree stamp value)

  is : IsTrack plan b track None
  is = (h.each seat (Session levels track None) at).1

  module _ (now : stamp ≡ b.stamp tree 1) where
    fits : (k : ℕ) (call : Call) → get_elem? after.calls k ≡ some call
        → IsCall plan b track.number (take k after.calls) call
    fits k call found = ⊎_elim
        (λ (old : (k < length track.calls) × (get_elem? track.calls k ≡ some call)). subst
        (λ (l : List Call). IsCall plan b track.number l call)
        (sym (take-shorter track.calls (Read tree stamp value ∷ []) k (let lt = old.0 in
        omega arith))) (is.past.calls k call old.1))
        (λ (new : (k ≡ length track.calls) × (Read tree stamp value ≡ call)).
        subst (λ (p : List Call × Call). IsCall plan b track.number p.0 p.1)
        (λ i. (
          sym (ap (λ (n : ℕ). take n after.calls) new.0
              ∙ take-whole track.calls (Read tree stamp value ∷ [])) i,
          new.1 i,
        ))
        (record {
          tree_in = tree_in;
          reached = omega arith;
          covers =
              ap (λ (s : ℕ). cover (b.seen tree) (leaf_of plan.levels track.number) plan.levels s) now
              ∙ (is.present.idle tree tree_in tt ∙ sym (is.past.own tree));
        }))
        (at_end track.calls (Read tree stamp value) call k found)

    order : (k l : ℕ) (t s u v w : ℕ) → k ≤ l → get_elem? after.calls k ≡ some (Read t s v)
        → get_elem? after.calls l ≡ some (Read t u w) → s ≤ u
    order k l t s u v w le first last = ⊎_elim
        (λ (old : (k < length track.calls) × (get_elem? track.calls k ≡ some (Read t s v))). ⊎_elim
        (λ (older : (l < length track.calls) × (get_elem? track.calls l ≡ some (Read t u w))).
        is.past.in_order k l t s u v w le old.1 older.1)
        (λ (new : (l ≡ length track.calls) × (Read tree stamp value ≡ Read t u w)).
        let same_tree : tree ≡ t = cc (new.1) in let same : stamp ≡ u = cc (new.1) in
        let reached : s ≤ b.stamp t 1 = (is.past.calls k (Read t s v) old.1).reached in
        let now' : stamp ≡ b.stamp t 1 = subst (λ (n : ℕ). stamp ≡ b.stamp n 1) same_tree now in
        omega arith)
        (at_end track.calls (Read tree stamp value) (Read t u w) l last))
        (λ (new : (k ≡ length track.calls) × (Read tree stamp value ≡ Read t s v)). ⊎_elim
        (λ (older : (l < length track.calls) × (get_elem? track.calls l ≡ some (Read t u w))).
        let a = new.0 in let o = older.0 in absurd (omega arith))
        (λ (newer : (l ≡ length track.calls) × (Read tree stamp value ≡ Read t u w)).
        let p : stamp ≡ s = cc (new.1) in let q : stamp ≡ u = cc (newer.1) in omega arith)
        (at_end track.calls (Read tree stamp value) (Read t u w) l last))
        (at_end track.calls (Read tree stamp value) (Read t s v) k first)

    pub read : IsStamped plan words (set views seat (Session levels after None))
    read = keeps_sums plan words views seat (Session levels track None)
        (Session levels after None) h at
        (record {
          seen = λ tree child stamp. refl;
          times = λ tree node stamp. refl;
          installs =
              λ tree node. refl;
          posts = λ number t. ap
              (λ (n : ℕ). when (track.number == number) n + 0) (sym (posts-same t));
        })
        (record { stands = λ number. refl; tracks = refl; keepers = refl; given = refl }) (
          (h.each seat (Session levels track None) at).0,
          record {
            past = record {
              number = is.past.number;
              own = λ t. posts-same t ∙ is.past.own t;
              quota = λ t. subst (λ (n : ℕ). n ≤ plan.quota) (sym (posts-same t)) (is.past.quota t);
              installs = λ t node. subst (λ (n : ℕ). installs_in t node track ≤ n)
                  (sym (posts-same t)) (is.past.installs t node);
              trail = is.past.trail;
              calls = fits;
              in_order = order;
            };
            present = record { ascends = tt; idle = is.present.idle; fewer = tt };
          },
        )
        (λ j u _ _. (fresh_onward levels after None u tt, fresh_back levels after None u tt))
        tt
