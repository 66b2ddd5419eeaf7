-- What all views say together, as sums over their tracks.
use Rattle.std.specs.Prelude.{ℕ, zero, suc, ◌+◌, ◌/◌, Bool, true, false, ◌&&◌, ◌==◌, List, [], ◌∷◌, length, slice_index}
use Rattle.node_rule.specs.declared.view.View.{View}
use Rattle.node_rule.specs.declared.view.Track.{Track}
use Rattle.node_rule.specs.declared.view.Install.{Install}
use Rattle.risk_board.specs.declared.hand.Call.{Call}
use Rattle.risk_board.specs.declared.hand.Call.TheVariants.{Post, Read}
use Rattle.node_rule.specs.Views.{tracks_of, pick, is_left}

-- the sum over a list
abbrev pub total : {A : Type 0} → (A → ℕ) → List A → ℕ
total f [] = 0
total f (x ∷ xs) = f x + total f xs

-- P of each element. By recursion, where std's `All` goes by index
abbrev pub Each : {A : Type 0} → (A → Type 0) → List A → Type 0
Each P [] = Unit {0}
Each P (x ∷ xs) = P x × Each P xs

-- the number where this holds, else 0
abbrev pub when : Bool → ℕ → ℕ
when true n = n
when false n = 0

-- over all tracks of all views
abbrev pub over : (Track → ℕ) → List View → ℕ
over f views = total (λ v. total f (tracks_of v)) views

-- an install of this node
abbrev pub is_at : ℕ → ℕ → Install → Bool
is_at tree node x = x.tree == tree && x.node == node

-- the stamp at which the install of the child's parent with this stamp read the child
abbrev pub read_by : ℕ → ℕ → ℕ → Install → ℕ
read_by tree child stamp x = when (is_at tree (child / 2) x && x.stamp == stamp)
    (pick (is_left child) x.left x.right)

-- over the installs of a track
abbrev pub seen_in : ℕ → ℕ → ℕ → Track → ℕ
seen_in tree child stamp track = total (read_by tree child stamp) track.trail

-- how many installs of the node have this stamp
abbrev pub times_in : ℕ → ℕ → ℕ → Track → ℕ
times_in tree node stamp track =
    total (λ x. when (is_at tree node x && x.stamp == stamp) 1) track.trail

-- how many installs the node has
abbrev pub installs_in : ℕ → ℕ → Track → ℕ
installs_in tree node track = total (λ x. when (is_at tree node x) 1) track.trail

-- the values posted in a tree, in order
abbrev pub posted : ℕ → List Call → List ℕ
posted tree [] = []
posted tree (Post t value ∷ calls) = pick (t == tree) (value ∷ posted tree calls)
    (posted tree calls)
posted tree (Read t stamp value ∷ calls) = posted tree calls

-- how many posts the session made in the tree
abbrev pub posts_in : ℕ → Track → ℕ
posts_in tree track = length (posted tree track.calls)

-- the post with this index, from 1
abbrev pub nth : List ℕ → ℕ → ℕ
nth values zero = 0
nth values (suc k) = slice_index values k

-- how many posts this number made in the tree
abbrev pub posts_of : ℕ → ℕ → Track → ℕ
posts_of number tree track = when (track.number == number) (posts_in tree track)

-- the post of this number in the tree, by index from 1
abbrev pub post_of : ℕ → ℕ → ℕ → Track → ℕ
post_of number tree index track = when (track.number == number)
    (nth (posted tree track.calls) index)

-- how often the number stands
abbrev pub stands_in : ℕ → Track → ℕ
stands_in number track = when (track.number == number) 1
