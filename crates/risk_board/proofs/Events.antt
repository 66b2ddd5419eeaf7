-- The events and the posts of calls after one more call.
use Rattle.std.proofs.Common.{◌≡◌, ◌≢◌, ℕ, ◌+◌, ◌==◌, List, [], ◌∷◌, ◌++◌, length, refl, ap, ◌∙◌}
use Rattle.std.proofs.Common.{arith, Bool, true, false, cond, eq-eqb, zero-add}
use Rattle.std.proofs.lemmas.List.Sums.{sum_by-cons, sum_by_push}
use Rattle.std.proofs.lemmas.List.{append-nil as append_nil}
use Rattle.std.proofs.lemmas.Bool.{ne_eqb}
use Rattle.risk_board.specs.declared.hand.Call.{Call}
use Rattle.risk_board.specs.declared.hand.Call.TheVariants.{Post, Read}
use Rattle.risk_board.specs.Calls.{post_count, is_post_in}
use Rattle.risk_board.specs.History.{Event, posted, events_of_calls}
use Rattle.risk_board.specs.History.Event.{Posted, Saw}

-- the events in a tree, a read's place being its stamp
abbrev pub events : ℕ → List Call → List Event
events tree calls = events_of_calls (λ stamp. stamp) tree calls

append_by_case : (b : Bool) (event : Event) (xs ys zs : List Event) → ys ≡ xs ++ zs
    → cond b (event ∷ ys) ys ≡ cond b (event ∷ xs) xs ++ zs
append_by_case true event xs ys zs same = ap (λ s. event ∷ s) same
append_by_case false event xs ys zs same = same

events-append : (tree : ℕ) (calls more : List Call)
    → events tree (calls ++ more) ≡ events tree calls ++ events tree more
events-append tree [] more = refl
events-append tree (Post in_tree value ∷ calls) more =
    append_by_case (in_tree == tree) (Posted value) (events tree calls) _ (events tree more)
    (events-append tree calls more)
events-append tree (Read in_tree stamp value ∷ calls) more =
    append_by_case (in_tree == tree) (Saw stamp stamp value) (events tree calls) _
    (events tree more) (events-append tree calls more)

-- a call in the tree adds its event
pub events-post : (tree : ℕ) (calls : List Call) (value : ℕ)
    → events tree (calls ++ Post tree value ∷ []) ≡ events tree calls ++ Posted value ∷ []
events-post tree calls value =
    events-append tree calls (Post tree value ∷ [])
    ∙ ap (λ b. events tree calls ++ cond b (Posted value ∷ []) []) (eq-eqb tree tree refl)

pub events-read : (tree : ℕ) (calls : List Call) (stamp value : ℕ)
    → events tree (calls ++ Read tree stamp value ∷ [])
    ≡ events tree calls ++ Saw stamp stamp value ∷ []
events-read tree calls stamp value =
    events-append tree calls (Read tree stamp value ∷ [])
    ∙ ap (λ b. events tree calls ++ cond b (Saw stamp stamp value ∷ []) [])
    (eq-eqb tree tree refl)

-- a call in another tree adds none
pub events-other_post : (tree other : ℕ) (calls : List Call) (value : ℕ) → other ≢ tree
    → events tree (calls ++ Post other value ∷ []) ≡ events tree calls
events-other_post tree other calls value apart =
    events-append tree calls (Post other value ∷ [])
    ∙ ap (λ b. events tree calls ++ cond b (Posted value ∷ []) []) (ne_eqb other tree apart)
    ∙ append_nil _

pub events-other_read : (tree other : ℕ) (calls : List Call) (stamp value : ℕ) → other ≢ tree
    → events tree (calls ++ Read other stamp value ∷ []) ≡ events tree calls
events-other_read tree other calls stamp value apart =
    events-append tree calls (Read other stamp value ∷ [])
    ∙ ap (λ b. events tree calls ++ cond b (Saw stamp stamp value ∷ []) [])
    (ne_eqb other tree apart)
    ∙ append_nil _

-- the count goes up at a post in the tree, and at no other call
pub post_count-post : (tree : ℕ) (calls : List Call) (value : ℕ)
    → post_count tree (calls ++ Post tree value ∷ []) ≡ post_count tree calls + 1
post_count-post tree calls value =
    sum_by_push (λ call. cond (is_post_in tree call) 1 0) calls (Post tree value)
    ∙ ap (λ b. post_count tree calls + cond b 1 0) (eq-eqb tree tree refl)

pub post_count-other_post : (tree other : ℕ) (calls : List Call) (value : ℕ) → other ≢ tree
    → post_count tree (calls ++ Post other value ∷ []) ≡ post_count tree calls
post_count-other_post tree other calls value apart =
    sum_by_push (λ call. cond (is_post_in tree call) 1 0) calls (Post other value)
    ∙ ap (λ b. post_count tree calls + cond b 1 0) (ne_eqb other tree apart)
    ∙ omega arith

pub post_count-read : (tree other : ℕ) (calls : List Call) (stamp value : ℕ)
    → post_count tree (calls ++ Read other stamp value ∷ []) ≡ post_count tree calls
post_count-read tree other calls stamp value =
    sum_by_push (λ call. cond (is_post_in tree call) 1 0) calls (Read other stamp value)
    ∙ omega arith

count_of_post : (b : Bool) (value : ℕ) (own : List Event) (n : ℕ) → n ≡ length (posted own)
    → cond b 1 0 + n ≡ length (posted (cond b (Posted value ∷ own) own))
count_of_post true value own n same = omega arith
count_of_post false value own n same = omega arith

count_of_read : (b : Bool) (stamp place value : ℕ) (own : List Event) (n : ℕ)
    → n ≡ length (posted own)
    → n ≡ length (posted (cond b (Saw stamp place value ∷ own) own))
count_of_read true stamp place value own n same = same
count_of_read false stamp place value own n same = same

-- the posts of the calls are those of their events
pub post_count_of_events : (tree : ℕ) (calls : List Call)
    → post_count tree calls ≡ length (posted (events tree calls))
post_count_of_events tree [] = refl
post_count_of_events tree (Post in_tree value ∷ calls) =
    sum_by-cons (λ call. cond (is_post_in tree call) 1 0) (Post in_tree value) calls
    ∙ count_of_post (in_tree == tree) value (events tree calls) (post_count tree calls)
    (post_count_of_events tree calls)
post_count_of_events tree (Read in_tree stamp value ∷ calls) =
    sum_by-cons (λ call. cond (is_post_in tree call) 1 0) (Read in_tree stamp value) calls
    ∙ zero-add (post_count tree calls)
    ∙ count_of_read (in_tree == tree) stamp stamp value (events tree calls)
    (post_count tree calls) (post_count_of_events tree calls)
