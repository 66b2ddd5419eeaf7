-- What a plain board keeps, when its trees tell its calls, and what a hand has room for.
use Rattle.std.specs.Prelude.{◌≡◌, ℕ, ◌+◌, ◌≤◌, ◌<◌, List, [], ◌∷◌, length, map, sum, Some}
use Rattle.std.specs.Prelude.{slice_get, slice_index_or, All, vec_len, vec_capacity}
use Rattle.std.specs.List.{AllByRecursion}
use Rattle.fold_law.specs.declared.limits.TheConstants.{SESSIONS, QUOTA}
use Rattle.risk_board.specs.declared.hand.Line.{Line}
use Rattle.risk_board.specs.declared.hand.Call.{Call}
use Rattle.risk_board.specs.declared.kept.Kept.{Kept}
use Rattle.risk_board.specs.declared.tree.PlainTree.{PlainTree}
use Rattle.risk_board.specs.Calls.{post_count}
use Rattle.risk_board.specs.History.{Event, IsOwnLegal, array_after, components_of}
use Rattle.risk_board.specs.History.Event.{Posted, Saw}
use Rattle.risk_board.specs.Plain.{BoardValue, plain_events}
use Rattle.risk_board.specs.Tree.{TreeValue, contents}

-- each read's stamp is its place, and no more than so many
abbrev pub ArePlaces : ℕ → List Event → Type 0
ArePlaces most [] = Unit {0}
ArePlaces most (Posted value ∷ events) = ArePlaces most events
ArePlaces most (Saw stamp place value ∷ events) =
    (stamp ≡ place) × (stamp ≤ most) × ArePlaces most events

-- a legal history in which each read's stamp is its place
pub record IsPlain (whole : List ℕ → ℕ) (unit components : ℕ) (lines : List Line)
    (events : List (List Event)) : Type 0 where
  pub few : length events ≤ components
  pub sessions : AllByRecursion (λ line. line.session < length events) lines
  pub each : (session : ℕ) (own : List Event) → slice_get events session ≡ Some own
      → IsOwnLegal whole unit components lines session own × ArePlaces (length lines) own

-- a tree's lines tell the calls, its array is that after them, and its counts are the calls'
pub record TellsCalls (whole : List ℕ → ℕ) (unit : ℕ) (IsLeaf : ℕ → Type 0) (quota : ℕ)
    (calls : List (List Call)) (index : ℕ) (tree : TreeValue) : Type 0 where
  pub plain :
      IsPlain whole unit (components_of (length calls)) tree.lines (plain_events index calls)
  pub array : tree.leaves ≡ array_after unit (components_of (length calls)) tree.lines
  pub leaves : All IsLeaf tree.leaves
  pub counts : tree.posts ≡ map (post_count index) calls
  pub total : length tree.lines ≡ sum tree.posts
  pub within : All (λ count. count ≤ quota) tree.posts

-- every tree tells the calls, and the numbers of sessions and posts are within their limits
pub record IsSound (whole : List ℕ → ℕ) (unit : ℕ) (IsLeaf : ℕ → Type 0) (quota : ℕ)
    (trees : List TreeValue) (calls : List (List Call)) : Type 0 where
  pub sessions : length calls ≤ SESSIONS
  pub few : quota ≤ QUOTA
  pub each : (index : ℕ) (d : TreeValue) → index < length trees
      → TellsCalls whole unit IsLeaf quota calls index (slice_index_or trees index d)

-- the trees' contents
abbrev pub trees_of : Kept → List TreeValue
trees_of kept = map contents kept.trees.items

-- the calls by session
abbrev pub calls_of : Kept → List (List Call)
calls_of kept = map (λ calls. calls.items) kept.calls.items

-- the board that is kept
abbrev pub board_of : Kept → BoardValue
board_of kept = record {
  quota = kept.quota;
  lines = map (λ tree. tree.lines.items) kept.trees.items;
  calls = calls_of kept;
}

-- what is kept is sound
abbrev pub IsKept : (List ℕ → ℕ) → ℕ → (ℕ → Type 0) → Kept → Type 0
IsKept whole unit IsLeaf kept =
    IsSound whole unit IsLeaf kept.quota (trees_of kept) (calls_of kept)

-- all of these trees have room for so many more lines
abbrev pub HaveRoom : ℕ → List PlainTree → Type 0
HaveRoom lines trees = All (λ tree. vec_len tree.lines + lines ≤ vec_capacity tree.lines) trees

-- there is room for so many more calls of the session, in whichever trees
pub record HasRoom (kept : Kept) (session spare : ℕ) : Type 0 where
  pub calls : (d : _) → let own = slice_index_or kept.calls.items session d in
      vec_len own + spare ≤ vec_capacity own
  pub trees : HaveRoom spare kept.trees.items

-- what a hand holds: what is kept is sound, its session has calls, and there is room for its spare
pub record IsHeld (whole : List ℕ → ℕ) (unit : ℕ) (IsLeaf : ℕ → Type 0) (kept : Kept)
    (session spare : ℕ) : Type 0 where
  pub sound : IsKept whole unit IsLeaf kept
  pub in_range : session < length kept.calls.items
  pub room : HasRoom kept session spare

-- the same quota, contents of the trees, and calls
pub record KeepsAll (before now : Kept) : Type 0 where
  pub quota : now.quota ≡ before.quota
  pub trees : trees_of now ≡ trees_of before
  pub calls : calls_of now ≡ calls_of before
