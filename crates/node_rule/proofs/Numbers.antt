-- Each number stands once, so the other views do not name the caller's.
use Rattle.std.proofs.Common.{◌≡◌, ◌≢◌, ℕ, ◌<◌, ◌≤◌, Bool, List, [], ◌∷◌, refl, ap, subst, ⊎_elim, arith}
use mathlib.Core.Option.{some}
use lib.ListN.{get_elem?}
use Rattle.std.proofs.lemmas.Bool.{cases_lt, eq-eqb}
use Rattle.node_rule.specs.declared.view.View.{View}
use Rattle.node_rule.specs.declared.view.View.TheVariants.{Session}
use Rattle.node_rule.specs.declared.view.Track.{Track}
use Rattle.node_rule.specs.declared.view.Ascent.{Ascent}
use Rattle.std.specs.Prelude.{Option}
use Rattle.node_rule.specs.declared.view.Plan.{Plan}
use Rattle.node_rule.specs.Views.{tracks_of}
use Rattle.node_rule.specs.Sums.{Each, total, over, when, stands_in}
use Rattle.node_rule.specs.StampPart.{AreNumbered}
use Rattle.node_rule.proofs.SumLemmas.{total-parts}
use Rattle.node_rule.specs.Views.{given_of}

pub stands-own : (track : Track) → stands_in track.number track ≡ 1
stands-own track = ap (λ (b : Bool). when b 1) (eq-eqb track.number track.number refl)

pub none_stand : (number : ℕ) (tracks : List Track) → total (stands_in number) tracks ≡ 0
    → Each (λ (track : Track). track.number ≢ number) tracks
none_stand number [] e = tt
none_stand number (track ∷ tracks) e = (
  (λ same. let one : stands_in number track ≡ 1 =
      subst (λ (n : ℕ). stands_in n track ≡ 1) same (stands-own track) in absurd (omega arith)),
  none_stand number tracks (omega arith),
)

pub at_most_once : (plan : Plan) (views : List View) → AreNumbered plan views → (number : ℕ)
    → over (stands_in number) views ≤ 1
at_most_once plan views h number = ⊎_elim
    (λ (given : number < total given_of views). let one = h.once number given in omega arith)
    (λ (not_yet : total given_of views ≤ number). let none = h.no_other number not_yet in
    omega arith)
    (cases_lt number (total given_of views))

-- the other views have other numbers
pub others_apart : (plan : Plan) (views : List View) → AreNumbered plan views
    → (seat levels : ℕ) (track : Track) (ascent : Option Ascent)
    → get_elem? views seat ≡ some (Session levels track ascent) → (j : ℕ) (u : View) → j ≢ seat
    → get_elem? views j ≡ some u → Each (λ (other : Track). other.number ≢ track.number)
    (tracks_of u)
others_apart plan views h seat levels track ascent at j u apart there =
    let both = total-parts (λ v. total (stands_in track.number) (tracks_of v)) views seat j
    (Session levels track ascent) u apart at there in
    let one = stands-own track in let most = at_most_once plan views h track.number in
    none_stand track.number (tracks_of u) (omega arith)
