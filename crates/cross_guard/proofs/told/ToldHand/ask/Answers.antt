-- The guard was asked, and what it called is told.
use Rattle.std.proofs.Common.{◌<◌, ◌+◌, ◌-◌, ◌++◌, [], ◌∷◌, ap, ◌∙◌, arith, vec_len, vec_capacity}
use Rattle.std.proofs.lemmas.List.{append_assoc}
use Rattle.risk_journal.specs.declared.acts.Act.TheVariants.{Post, Read}
use Rattle.cross_guard.specs.Guarding.{calls_by, with_calls}
use Rattle.cross_guard.proofs.AskedHand.{crossed_told, joined_capped, quota_told, sent_told}
use Rattle.cross_guard.proofs.Lasts.{index_within}
use Rattle.cross_guard.proofs.ToldSteps.{asked, asked_back, can_guard}
use Rattle.cross_guard.proofs.told.ToldHand.ask.Goals as goal

pub guard-outcome-requires : goal.guard-outcome-requires
guard-outcome-requires g c =
    let inside = rw (← c.self.view_is) at c.requires.tree in
    let room = rw (← c.self.view_is) at c.requires.room in
    let old = c.index-old.result.now in
    can_guard _ _ _ _ c.self.invariant.0 c.args.tree old c.joined-new.result c.args.value inside
    c.requires.capped (omega (arith, room))
    (c.index-old.ensures ∙ index_within c.self.inside.lasts.items c.args.tree old 0 inside)
    c.joined-new.ensures

pub invariant_of-self-in-Sent : goal.invariant_of-self-in-Sent
invariant_of-self-in-Sent g c =
    let step = c.self.invariant.0 in
    let tree = c.args.tree in
    let old = c.index-old.result.now in
    let new = c.joined-new.result in
    let root = c.guard-outcome.result.root in
    let inside = rw (← c.self.view_is) at c.requires.tree in
    let room = rw (← c.self.view_is) at c.requires.room in
    let low = c.index-old.ensures ∙ index_within c.self.inside.lasts.items tree old 0 inside in
    let slot : vec_len c.tell_asked.new.acts < vec_capacity c.tell_asked.new.acts =
    omega (arith, room, c.tell_asked.ensures.len, c.tell_asked.ensures.capacity) in
    let calls = c.guard-outcome.ensures.calls
    ∙ ap (λ v. with_calls (calls_by v tree old new root) (g.H.Hand.meaning c.self.inside.hand))
    c.in-Sent.is in
    rw (calls, c.tell_asked.ensures.items) (
      asked _ _ _ _ step tree _ new root inside
          (joined_capped old new c.args.value (omega (arith, low, step.capped tree)) c.requires.capped
          c.joined-new.ensures),
      slot,
    )

pub invariant_of-self-in-Cross : goal.invariant_of-self-in-Cross
invariant_of-self-in-Cross g c =
    let step = c.self.invariant.0 in
    let tree = c.args.tree in
    let old = c.index-old.result.now in
    let new = c.joined-new.result in
    let root = c.guard-outcome.result.root in
    let made = c.self.inside.quota - c.left.result in
    let inside = rw (← c.self.view_is) at c.requires.tree in
    let room = rw (← c.self.view_is) at c.requires.room in
    let slot : vec_len c.push_reserved.new.self < vec_capacity c.push_reserved.new.self =
    omega (
      arith,
      room,
      c.tell_asked-in-Cross.ensures.len,
      c.tell_asked-in-Cross.ensures.capacity,
      c.push_reserved.ensures.len,
      c.push_reserved.ensures.capacity,
    ) in
    let calls = c.guard-outcome.ensures.calls
    ∙ ap (λ v. with_calls (calls_by v tree old new root) (g.H.Hand.meaning c.self.inside.hand))
    c.in-Cross.is in
    let items = c.push_reserved.ensures.items
    ∙ ap (λ l. l ++ Post tree (made + 2) old ∷ []) c.tell_asked-in-Cross.ensures.items
    ∙ append_assoc c.self.inside.acts.items
    (Post tree (made + 1) new ∷ Read tree root.stamp 0 root.value ∷ []) (Post tree (made + 2) old ∷ []) in
    rw (calls, items) (
      asked_back _ _ _ _ step tree _ _ new old root inside
          (c.index-old.ensures ∙ index_within c.self.inside.lasts.items tree old 0 inside),
      slot,
    )

pub returns-in-Quota-clause-asked : goal.returns-in-Quota-clause-asked
returns-in-Quota-clause-asked g c =
    let tree = c.args.tree in
    let old = c.index-old.result.now in
    let inside = rw (← c.self.view_is) at c.requires.tree in
    rw (← c.self.view_is)
    (quota_told _ _ _ _ c.self.invariant.0 tree c.args.value old c.joined-new.result c.left.result inside
    (c.index-old.ensures ∙ index_within c.self.inside.lasts.items tree old 0 inside)
    c.joined-new.ensures c.left.ensures c.guard-outcome.result c.guard-outcome.ensures.quota
    c.in-Quota.is)

pub returns-in-Sent-clause-asked : goal.returns-in-Sent-clause-asked
returns-in-Sent-clause-asked g c =
    let tree = c.args.tree in
    let old = c.index-old.result.now in
    let inside = rw (← c.self.view_is) at c.requires.tree in
    rw (← c.self.view_is, c.tell_asked.ensures.items)
    (sent_told _ _ _ _ c.self.invariant.0 tree c.args.value old c.joined-new.result c.left.result inside
    (c.index-old.ensures ∙ index_within c.self.inside.lasts.items tree old 0 inside)
    c.joined-new.ensures c.left.ensures c.guard-outcome.result c.guard-outcome.ensures.quota
    c.guard-outcome.ensures.sent c.in-Sent.is)

pub returns-in-Cross-clause-asked : goal.returns-in-Cross-clause-asked
returns-in-Cross-clause-asked g c =
    let tree = c.args.tree in
    let old = c.index-old.result.now in
    let new = c.joined-new.result in
    let root = c.guard-outcome.result.root in
    let made = c.self.inside.quota - c.left.result in
    let inside = rw (← c.self.view_is) at c.requires.tree in
    let items = c.push_reserved.ensures.items
    ∙ ap (λ l. l ++ Post tree (made + 2) old ∷ []) c.tell_asked-in-Cross.ensures.items
    ∙ append_assoc c.self.inside.acts.items
    (Post tree (made + 1) new ∷ Read tree root.stamp 0 root.value ∷ []) (Post tree (made + 2) old ∷ []) in
    rw (← c.self.view_is, items)
    (crossed_told _ _ _ _ c.self.invariant.0 tree c.args.value old new c.left.result inside
    (c.index-old.ensures ∙ index_within c.self.inside.lasts.items tree old 0 inside)
    c.joined-new.ensures c.left.ensures c.guard-outcome.result c.guard-outcome.ensures.quota
    c.guard-outcome.ensures.sent c.in-Cross.is)
