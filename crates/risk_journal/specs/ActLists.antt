-- What the acts of a session are: its posts and reads by tree, its calls, and its reads' places.
use Rattle.std.specs.Prelude.{ℕ, ◌==◌, List, [], ◌∷◌, fold, count_by, if◌then◌else◌, Bool, false}
use Rattle.std.specs.Prelude.{nat_lt, slice_index, slice_index_or}
use Rattle.risk_board.specs.History.{Event}
use Rattle.risk_board.specs.History.Event.{Posted, Saw}
use Rattle.risk_board.specs.declared.hand.Call.{Call}
use Rattle.risk_board.specs.declared.hand.Call.TheVariants as call
use Rattle.risk_journal.specs.declared.acts.Act.{Act}
use Rattle.risk_journal.specs.declared.acts.Act.TheVariants.{Post, Read, Sent, Refused, Noted, Ended}

-- a read of a tree's root: its stamp, its place in the tree's history and its value
pub record SeenAt : Type 0 where
  pub stamp : ℕ
  pub place : ℕ
  pub value : ℕ

-- a post in the tree
abbrev pub is_post_act_in : ℕ → Act → Bool
is_post_act_in tree (Post in_tree index value) = in_tree == tree
is_post_act_in tree act = false

-- how many posts the acts have in a tree
abbrev pub posts_in : ℕ → List Act → ℕ
posts_in tree acts = count_by (is_post_act_in tree) acts

-- the value last posted in a tree after one more act
abbrev pub latest : ℕ → ℕ → Act → ℕ
latest tree before (Post in_tree index value) = if in_tree == tree then value else before
latest tree before act = before

-- the value last posted in a tree, and 0 before any
abbrev pub last_post : ℕ → List Act → ℕ
last_post tree acts = fold (latest tree) 0 acts

-- what a session did in a tree, by its acts
abbrev pub events_of : ℕ → List Act → List Event
events_of tree [] = []
events_of tree (Post in_tree index value ∷ acts) =
    if in_tree == tree then Posted value ∷ events_of tree acts else events_of tree acts
events_of tree (Read in_tree stamp place value ∷ acts) =
    if in_tree == tree then Saw stamp place value ∷ events_of tree acts else events_of tree acts
events_of tree (Sent frame ∷ acts) = events_of tree acts
events_of tree (Refused frame code first second ∷ acts) = events_of tree acts
events_of tree (Noted frame code first second ∷ acts) = events_of tree acts
events_of tree (Ended end ∷ acts) = events_of tree acts

-- the reads of a session, in order
abbrev pub reads_of : List Act → List SeenAt
reads_of [] = []
reads_of (Read tree stamp place value ∷ acts) =
    record { stamp = stamp; place = place; value = value } ∷ reads_of acts
reads_of (Post tree index value ∷ acts) = reads_of acts
reads_of (Sent frame ∷ acts) = reads_of acts
reads_of (Refused frame code first second ∷ acts) = reads_of acts
reads_of (Noted frame code first second ∷ acts) = reads_of acts
reads_of (Ended end ∷ acts) = reads_of acts

-- the calls of a session on its hand, in order
abbrev pub calls_of : List Act → List Call
calls_of [] = []
calls_of (Post tree index value ∷ acts) = call.Post tree value ∷ calls_of acts
calls_of (Read tree stamp place value ∷ acts) = call.Read tree stamp value ∷ calls_of acts
calls_of (Sent frame ∷ acts) = calls_of acts
calls_of (Refused frame code first second ∷ acts) = calls_of acts
calls_of (Noted frame code first second ∷ acts) = calls_of acts
calls_of (Ended end ∷ acts) = calls_of acts

-- the calls of a session in the trees below a number, in order
abbrev pub calls_below : ℕ → List Act → List Call
calls_below count [] = []
calls_below count (Post tree index value ∷ acts) =
    if nat_lt tree count then call.Post tree value ∷ calls_below count acts
    else calls_below count acts
calls_below count (Read tree stamp place value ∷ acts) =
    if nat_lt tree count then call.Read tree stamp value ∷ calls_below count acts
    else calls_below count acts
calls_below count (Sent frame ∷ acts) = calls_below count acts
calls_below count (Refused frame code first second ∷ acts) = calls_below count acts
calls_below count (Noted frame code first second ∷ acts) = calls_below count acts
calls_below count (Ended end ∷ acts) = calls_below count acts

-- the calls of a session in one tree, as calls on a hand of that tree alone, in order
abbrev pub calls_at : ℕ → List Act → List Call
calls_at tree [] = []
calls_at tree (Post in_tree index value ∷ acts) =
    if in_tree == tree then call.Post 0 value ∷ calls_at tree acts else calls_at tree acts
calls_at tree (Read in_tree stamp place value ∷ acts) =
    if in_tree == tree then call.Read 0 stamp value ∷ calls_at tree acts else calls_at tree acts
calls_at tree (Sent frame ∷ acts) = calls_at tree acts
calls_at tree (Refused frame code first second ∷ acts) = calls_at tree acts
calls_at tree (Noted frame code first second ∷ acts) = calls_at tree acts
calls_at tree (Ended end ∷ acts) = calls_at tree acts

-- an act with the place of a read by its tree and its stamp
abbrev pub placed_by : (ℕ → ℕ → ℕ) → Act → Act
placed_by place (Read tree stamp before value) = Read tree stamp (place tree stamp) value
placed_by place (Post tree index value) = Post tree index value
placed_by place (Sent frame) = Sent frame
placed_by place (Refused frame code first second) = Refused frame code first second
placed_by place (Noted frame code first second) = Noted frame code first second
placed_by place (Ended end) = Ended end

-- an act with the place of a read by its stamp alone
abbrev pub placed : (ℕ → ℕ) → Act → Act
placed place act = placed_by (λ tree stamp. place stamp) act

-- an act with no place of a read
abbrev pub unplaced : Act → Act
unplaced act = placed_by (λ tree stamp. 0) act

-- the place of a stamp of a tree, of these places by tree and by stamp; 0 where there is none
abbrev pub place_in : List (List ℕ) → ℕ → ℕ → ℕ
place_in places tree stamp = slice_index (slice_index_or places tree []) stamp
