-- Between two posts: what a session is by its fields, what a read owes, and what it leaves.
use Rattle.std.proofs.Common.{◌≡◌, ℕ, ◌+◌, ◌-◌, ◌*◌, ◌^◌, ◌<◌, ◌≤◌, Bool, List, [], ◌∷◌, ◌++◌, length, Option, None, sym, ap, ◌∙◌, subst, arith}
use mathlib.Core.Option.{some, none}
use Rattle.std.specs.Prelude.{IfSome}
use Rattle.std.proofs.Common.{lit<}
use Rattle.std.proofs.Math.Nat.{pow-le-pow_right, mul-le-mul_left}
use Rattle.atomic_table.specs.Table.{State, step, Allows}
use Rattle.stamp_word.specs.Word.{stamp_in, value_in}
use Rattle.stamp_word.specs.Places.{place_of}
use Rattle.fold_law.specs.Laws.{FoldLaws}
use Rattle.node_rule.specs.declared.view.View.{View}
use Rattle.node_rule.specs.declared.view.View.TheVariants.{Session}
use Rattle.risk_board.specs.declared.hand.Call.{Call}
use Rattle.risk_board.specs.declared.hand.Call.TheVariants.{Read}
use Rattle.node_rule.specs.declared.view.Install.{Install}
use Rattle.node_rule.specs.declared.view.Track.{Track}
use Rattle.node_rule.specs.declared.view.Ascent.{Ascent}
use Rattle.node_rule.specs.declared.view.Plan.{Plan}
use Rattle.node_rule.specs.Views.{called}
use Rattle.node_rule.specs.Sums.{posted}
use Rattle.node_rule.specs.ValuePart.{IsKept}
use Rattle.node_rule.specs.Steps.{Mine, IsLatest, tree_of, after_read, Reads}
use lib.ListN.{get_elem?}
use Rattle.node_rule.specs.Standing.{IsOnWay, IsSound, HasRoom, AreCounted}
use Rattle.node_rule.proofs.CallLists.{posted-read}
use Rattle.node_rule.proofs.AllowedCalls.{tree_of-place, allows_read}

-- the view of a session between two posts, by its fields
pub record IsIdleSeat (plan : Plan) (number : ℕ) (calls : List Call)
    (trail : List Install) (ascent : Option Ascent) (levels : ℕ) (track : Track) : Type 0 where
  pub no_ascent : ascent ≡ None
  pub level : levels ≡ plan.levels
  pub track_is : track ≡ record { number = number; calls = calls; trail = trail }

module _ {under : ℕ → ℕ → Type 0} {plan : Plan} {number : ℕ} {calls : List Call}
    {trail : List Install} {ascent : Option Ascent} {view : View}
    (sound : IsSound under plan number calls trail ascent view)
    (levels : ℕ) (track : Track) (seen : view ≡ Session levels track None) where
  pub idle_seat : IsIdleSeat plan number calls trail ascent levels track
  idle_seat = let own = sound.own in record { no_ascent = cc; level = cc; track_is = cc }

  -- what the fields are to the view after one more call
  pub called_sound : (call : Call) (more : List Call) → more ≡ calls ++ call ∷ []
      → (next : Option Ascent) → IfSome next (IsOnWay under plan number) → (after : View)
      → after ≡ Session levels (called track call) next
      → IsSound under plan number more trail next after
  called_sound call more more_is next way after after_is = record {
    planned = sound.planned;
    number_in = sound.number_in;
    own = let seat = idle_seat in
        after_is ∙ ((λ i. Session (seat.level i) (called (seat.track_is i) call) next)
        ∙ ap (λ (l : List Call). Session plan.levels
        (record { number = number; calls = l; trail = trail }) next) (sym more_is));
    on_way = way;
  }

-- the view after a read
pub read_view : (plan : Plan) (levels : ℕ) (track : Track) (tree place found : ℕ)
    → levels ≡ plan.levels → 1 < 2 * 2 ^ plan.levels → place ≡ place_of plan.levels tree 1
    → after_read place found (Session levels track None) ≡ Session levels
    (called track (Read tree (stamp_in found) (value_in found))) None
read_view plan levels track tree place found e root_in place_is =
    let same : tree_of levels place ≡ tree = (λ i. tree_of (e i) (place_is i))
    ∙ tree_of-place plan.levels tree 1 root_in in
    ap (λ (t : ℕ). Session levels (called track (Read t (stamp_in found) (value_in found))) None)
    same

pub read_counted : (plan : Plan) (calls made : List Call) (counts : List ℕ)
    (tree stamp value : ℕ) → made ≡ calls ++ Read tree stamp value ∷ []
    → AreCounted plan calls counts → AreCounted plan made counts
read_counted plan calls made counts tree stamp value e h = (
  h.0,
  λ t t_in. h.1 t t_in ∙ ap length
      (sym (ap (posted t) e ∙ posted-read t calls tree stamp value)),
)

module _ {unit cap : ℕ} {join : ℕ → ℕ → ℕ} {le : ℕ → ℕ → Bool} {under : ℕ → ℕ → Type 0}
    (laws : FoldLaws unit cap join le under) (slots id : ℕ) (me : Mine) {key plan : Plan}
    (key_is : key ≡ plan) where
  abbrev kept_by : Plan → State (Unit {0}) View → Type 0
  kept_by p s = IsKept p unit cap join s.words s.views

  pub read_allowed : (levels : ℕ) (track : Track) (tree place : ℕ)
      → me.0 ≡ Session levels track None → tree < plan.trees → 1 < 2 * 2 ^ plan.levels
      → place ≡ place_of plan.levels tree 1
      → Allows (kept_by key) slots id me place (λ n. n) (Reads (step slots place 0 0 none) me)
  read_allowed levels track tree place e tree_in root_in place_is =
      subst (λ (p : Plan × ℕ). Allows (kept_by p.0) slots id me p.1 (λ n. n)
      (Reads (step slots p.1 0 0 none) me)) (λ i. (sym key_is i, sym place_is i))
      (allows_read plan unit cap join le under laws slots id me levels track tree e tree_in root_in)

-- the view after the read that a load told of
pub read_told : (plan : Plan) (levels : ℕ) (track : Track) (tree place found stamp value : ℕ)
    (me after : Mine) → me.0 ≡ Session levels track None → levels ≡ plan.levels
    → place ≡ place_of plan.levels tree 1 → stamp ≡ stamp_in found → value ≡ value_in found
    → after ≡ (after_read place found me.0, me.1)
    → after.0 ≡ Session levels (called track (Read tree stamp value)) None
read_told plan levels track tree place found stamp value me after seen e place_is stamp_is value_is
    told =
    let one : 1 ≤ 2 ^ plan.levels = pow-le-pow_right {n = 2} (lit< tt) {i = 0} (omega arith) in
    ap (λ (m : Mine). m.0) told ∙ (ap (after_read place found) seen
    ∙ (read_view plan levels track tree place found e (omega arith) place_is
    ∙ (λ i. Session levels (called track (Read tree (sym stamp_is i) (sym value_is i))) None)))

pub read_room : (levels spare made made' call_room call_room' won install_room : ℕ)
    (ascent : Option Ascent) → 1 ≤ spare → made' ≡ made + 1 → call_room' ≡ call_room
    → HasRoom levels spare made call_room won install_room ascent
    → HasRoom levels (spare - 1) made' call_room' won install_room ascent
read_room levels spare made made' call_room call_room' won install_room ascent some_spare one same h
    =
    let calls = h.calls in let installs = h.installs in
    let fewer : levels * (spare - 1) ≤ levels * spare =
    mul-le-mul_left levels (let less : spare - 1 ≤ spare = omega arith in less) in
    record { calls = omega arith; installs = omega arith }

-- no earlier read of the root has a later stamp
pub latest_told : (plan : Plan) (levels : ℕ) (track : Track) (tree place found stamp : ℕ)
    (view : View) → view ≡ Session levels track None → levels ≡ plan.levels
    → place ≡ place_of plan.levels tree 1 → stamp ≡ stamp_in found
    → IsLatest view place (stamp_in found)
    → (k s v : ℕ) → get_elem? track.calls k ≡ some (Read tree s v) → s ≤ stamp
latest_told plan levels track tree place found stamp view seen e place_is stamp_is told k s v here =
    let one : 1 ≤ 2 ^ plan.levels = pow-le-pow_right {n = 2} (lit< tt) {i = 0} (omega arith) in
    let same : tree_of levels place ≡ tree = (λ i. tree_of (e i) (place_is i))
    ∙ tree_of-place plan.levels tree 1 (omega arith) in
    let told' : IsLatest (Session levels track None) place (stamp_in found) =
    subst (λ (u : View). IsLatest u place (stamp_in found)) seen told in
    let most : s ≤ stamp_in found = told' k s v (here
    ∙ ap (λ (t : ℕ). some (Read t s v)) (sym same)) in omega arith
