use Rattle.std.proofs.Common.{◌≡◌, ◌∙◌, ◌++◌, ◌∷◌, [], sym, ap, refl, subst, true, arith}
use Rattle.std.proofs.Common.{if◌then◌else◌, length}
use Rattle.std.specs.Result.{is_ok}
use Rattle.risk_journal.specs.SparseTrees.{AreRising}
use Rattle.risk_journal.proofs.SparseSteps.{AreBoth, both_more, both_end, both_begin}
use Rattle.risk_journal.proofs.sparse.expand.Goals as goal

pub loop-own-init : goal.loop-own-init
loop-own-init c =
    both_begin (λ own. own.items) c.new-lists.result.items
    c.into_iter-own-iterator.result.rest.items c.args.trees.items c.new-lists.ensures.items
    c.into_iter-own-iterator.ensures.into_iter_gives.0 c.requires

pub fill_up-requires : goal.fill_up-requires
fill_up-requires c =
    let rising = subst (AreRising (length c.loop-own.lists.items)) c.in-Some.ensures.steps.0
    c.loop-own.invariant.rising in
    rising.0

pub loop-own-preserved : goal.loop-own-preserved
loop-own-preserved c =
    let filled = c.fill_up.new.lists.items in
    let added : is_ok c.push.result ≡ true =
    sym c.map_err.ensures.variant ∙ ap is_ok c.in_ok-map_err.was in
    both_more (λ own. own.items) c.loop-own.lists.items filled c.push.new.self.items
    c.in-Some.own.lines c.in-Some.own c.next.new.self.rest.items c.args.trees.items
    (subst (λ rest. AreBoth (λ own. own.items) c.loop-own.lists.items rest c.args.trees.items)
    c.in-Some.ensures.steps.0 c.loop-own.invariant)
    c.in_ok-fill_up.ensures
    (c.push.ensures.items
    ∙ ap (λ is. if is then filled ++ c.in-Some.own.lines ∷ [] else filled) added)
    refl

pub returns : goal.returns
returns c =
    let ok = c.loop-own.own-iterator.rest.ok in
    both_end (λ own. own.items) c.loop-own.lists.items c.loop-own.own-iterator.rest.items
    c.args.trees.items c.loop-own.invariant (omega (arith, ok, c.in-None.ensures.steps))
