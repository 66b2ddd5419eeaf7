-- The reads by their places make the steps of the history.
use Rattle.std.proofs.Common.{◌≡◌, ℕ, ◌+◌, List, length, sym, ap, ◌∙◌, subst, Vec, Global}
use Rattle.std.specs.Prelude.{filter}
use Rattle.std.specs.List.{AllByRecursion}
use Rattle.std.proofs.lemmas.List.{length-map}
use Rattle.tree_check.specs.declared.read_at.ReadAt.{ReadAt}
use Rattle.tree_check.specs.Reads.{AreOf, is_at, moments_by, moments_with}
use Rattle.tree_check.specs.Staying.{stays_from, standing_values}
use Rattle.tree_check.proofs.Below.{length-below}
use Rattle.tree_check.proofs.Bucketed.{each_of}
use Rattle.tree_check.proofs.Moments.{by_places}
use Rattle.tree_check.proofs.PlaceSteps.{kept}
use Rattle.tree_check.proofs.staying.stays_within.Goals as goal

-- the lists that are handed on are those by place
kept_so : (now own : List (Vec ReadAt Global)) (lists : List (List ReadAt)) → now ≡ own
    → kept own ≡ lists → kept now ≡ lists
kept_so now own lists is are = ap kept is ∙ are

pub lines_stay-requires-clause-reads : goal.lines_stay-requires-clause-reads
lines_stay-requires-clause-reads c =
    let sessions : length c.deref_mut.result.now ≡ c.args.sessions =
    ap length c.deref_mut.ensures.value ∙ c.in_ok-standings.ensures.many in
    subst (λ (n : ℕ). AllByRecursion (AreOf n) (kept c.deref.result.now)) (sym sessions)
    (subst (λ (lists : List (List ReadAt)). AllByRecursion (AreOf c.args.sessions) lists)
    (sym (kept_so _ _ _ c.deref.ensures.value c.in_ok-places.ensures))
    (each_of c.args.sessions c.args.reads.now (length c.args.lines.now + 1) c.requires.reads))

pub lines_stay-requires-clause-long : goal.lines_stay-requires-clause-long
lines_stay-requires-clause-long c =
    sym (length-map c.deref.result.now (λ (own : Vec ReadAt Global). own.items))
    ∙ ap length (kept_so _ _ _ c.deref.ensures.value c.in_ok-places.ensures)
    ∙ length-below (λ place. filter (is_at place) c.args.reads.now) (length c.args.lines.now + 1)

pub returns : goal.returns
returns c =
    c.lines_stay.ensures
    ∙ ap (λ lists. stays_from c.args.limit (standing_values c.deref_mut.result.now)
    (moments_by c.args.lines.now lists))
    (kept_so _ _ _ c.deref.ensures.value c.in_ok-places.ensures)
    ∙ ap (stays_from c.args.limit (standing_values c.deref_mut.result.now))
    (by_places c.args.lines.now c.args.reads.now)
    ∙ ap (λ start. stays_from c.args.limit start (moments_with 0 c.args.lines.now c.args.reads.now))
    (ap standing_values c.deref_mut.ensures.value ∙ c.in_ok-standings.ensures.values)
