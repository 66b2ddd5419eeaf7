-- one session more
use Rattle.std.proofs.Common.{◌≡◌, ◌+◌, ◌++◌, ◌∙◌, [], List, sym, subst, ap, refl, length, map, arith, All}
use Rattle.std.proofs.Common.{get_or, length-drop}
use Rattle.std.proofs.lemmas.List.{length-map}
use Rattle.std.specs.Prelude.{slice_get, Some}
use Rattle.std.proofs.lemmas.Option.{none-some, slice_get_within}
use Rattle.fold_law.specs.declared.limits.TheConstants.{LEAF}
use Rattle.limit_table.specs.Trees.{halt_tree}
use Rattle.risk_journal.specs.JournalGrammar.{HasEnded}
use Rattle.risk_journal.specs.declared.acts.Act.{Act}
use Rattle.journal_check.specs.PostBounds.{PostsAtMost}
use Rattle.journal_check.specs.SameActs.{IsInTrees}
use Rattle.journal_check.specs.Sessions.{IsAlike, AreAlike}
use Rattle.journal_check.specs.Answers.{AreBack}
use Rattle.journal_check.proofs.Counts.{count_next, count_own}
use Rattle.journal_check.proofs.Kept.{kept, kept_count, kept_own, kept_at}
use Rattle.journal_check.proofs.NextSource.{rest_left, set_is, sets_left, left_is}
use Rattle.journal_check.proofs.NextSource.{more_count, more_back, next_all_back, next_rose}
use Rattle.journal_check.proofs.Sources.{all_back}
use Rattle.journal_check.proofs.SessionSteps.{one_more, alike_as, apart_as}
use Rattle.journal_check.proofs.session_acts.compare_all.Goals as goal

pub loop-session-init : goal.loop-session-init
loop-session-init g c =
    let none : c.reserve.new.self.items ≡ [] = c.in-Ok.ensures.items ∙ c.new-back.ensures.items in
    let ok = c.args.sources.ok in
    record {
      count = ap length none;
      rest = refl;
      screens = refl;
      room = omega (arith, c.in-Ok.ensures.ok, c.len.ensures);
      back = λ index one other at also.
          absurd (none-some other (subst (λ (b : List _). slice_get b index ≡ Some other) none also));
      row = refl;
      alike = λ session own less at. absurd (omega (arith, less));
      capped = λ session own less at. absurd (omega (arith, less));
    }

pub compare_next-requires-clause-source : goal.compare_next-requires-clause-source
compare_next-requires-clause-source g c =
    let long = ap length c.loop-session.invariant.rest in
    omega (
      arith,
      long,
      length-drop c.loop-session.session c.args.sources.items,
      c.requires.count,
      c.loop-session-test.true,
    )

pub compare_next-requires-clause-set : goal.compare_next-requires-clause-set
compare_next-requires-clause-set g c =
    let long = ap length c.loop-session.invariant.screens in
    omega (
      arith,
      long,
      length-drop c.loop-session.session (map g.K.SessionScreens.meaning c.args.screens.items),
      c.requires.count,
      c.requires.screens,
      c.loop-session-test.true,
      length-map c.args.screens.items g.K.SessionScreens.meaning,
      length-map c.loop-session.progress.screens.items g.K.SessionScreens.meaning,
    )

pub compare_next-requires-clause-ended : goal.compare_next-requires-clause-ended
compare_next-requires-clause-ended g c =
    subst HasEnded
    (kept_own c.args.acts.now c.loop-session.session c.index-acts-session.result
    c.loop-session-test.true c.index-acts-session.is ∙ sym c.as_slice-own.ensures.value)
    (c.requires.ended c.loop-session.session []
    (omega (arith, c.loop-session-test.true, kept_count c.args.acts.now)))

pub compare_next-requires-clause-trees : goal.compare_next-requires-clause-trees
compare_next-requires-clause-trees g c =
    subst (λ (own : List Act). All (IsInTrees (halt_tree c.args.limits.now)) own)
    (kept_own c.args.acts.now c.loop-session.session c.index-acts-session.result
    c.loop-session-test.true c.index-acts-session.is ∙ sym c.as_slice-own.ensures.value)
    (c.requires.trees c.loop-session.session []
    (omega (arith, c.loop-session-test.true, kept_count c.args.acts.now)))

pub overflow_cast-row : goal.overflow_cast-row
overflow_cast-row g c =
    let own_is = ap length (kept_own c.args.acts.now c.loop-session.session c.index-acts-session.result
    c.loop-session-test.true c.index-acts-session.is ∙ sym c.as_slice-own.ensures.value) in
    omega (arith, c.requires.rows, own_is, count_own (kept c.args.acts.now) c.loop-session.session)

pub overflow_add-row : goal.overflow_add-row
overflow_add-row g c =
    let own_is = ap length (kept_own c.args.acts.now c.loop-session.session c.index-acts-session.result
    c.loop-session-test.true c.index-acts-session.is ∙ sym c.as_slice-own.ensures.value) in
    omega (
      arith,
      c.requires.rows,
      c.loop-session.invariant.row,
      own_is,
      count_own (kept c.args.acts.now) c.loop-session.session,
    )

pub overflow_cast-index : goal.overflow_cast-index
overflow_cast-index g c =
    let own_is = ap length (kept_own c.args.acts.now c.loop-session.session c.index-acts-session.result
    c.loop-session-test.true c.index-acts-session.is ∙ sym c.as_slice-own.ensures.value) in
    omega (
      arith,
      c.requires.rows,
      own_is,
      count_own (kept c.args.acts.now) c.loop-session.session,
      c.compare_next.ensures.inside c.in-Apart.index c.in-Apart.is,
    )

pub overflow_add-row-in-Apart : goal.overflow_add-row-in-Apart
overflow_add-row-in-Apart g c =
    let own_is = ap length (kept_own c.args.acts.now c.loop-session.session c.index-acts-session.result
    c.loop-session-test.true c.index-acts-session.is ∙ sym c.as_slice-own.ensures.value) in
    omega (
      arith,
      c.requires.rows,
      c.loop-session.invariant.row,
      own_is,
      count_own (kept c.args.acts.now) c.loop-session.session,
      c.compare_next.ensures.inside c.in-Apart.index c.in-Apart.is,
    )

pub loop-session-preserved : goal.loop-session-preserved
loop-session-preserved g c =
    let sources = c.args.sources.items in
    let sets = map g.K.SessionScreens.meaning c.args.screens.items in
    let acts = kept c.args.acts.now in
    let session = c.loop-session.session in
    let last = c.loop-session.invariant in
    let next = c.compare_next.ensures.next in
    let own = c.as_slice-own.result.now in
    let own_is : get_or acts session [] ≡ own =
    kept_own c.args.acts.now session c.index-acts-session.result
    c.loop-session-test.true c.index-acts-session.is ∙ sym c.as_slice-own.ensures.value in
    let at : slice_get acts session ≡ Some own =
    kept_at c.args.acts.now session c.index-acts-session.result c.loop-session-test.true
    c.index-acts-session.is ∙ ap (λ (o : List Act). Some o) (sym c.as_slice-own.ensures.value) in
    record {
      count = more_count next sources sets session last.count last.rest last.screens last.back;
      rest = rest_left next sources sets session last.count last.rest last.screens last.back;
      screens = sets_left next sources sets session last.count last.rest last.screens last.back;
      room = c.compare_next.ensures.room;
      back = more_back next sources sets session last.count last.rest last.screens last.back;
      row = omega (arith, last.row, ap length own_is, count_next acts session);
      alike = one_more (IsAlike c.args.limits.now (map g.S.Source.left sources) sets) acts session own at
          last.alike
          (alike_as c.args.limits.now (map g.S.Source.left sources) sets session own
          (g.S.Source.left next.one) next.set
          (left_is next sources sets session last.count last.rest last.screens last.back)
          (set_is next sources sets session last.count last.rest last.screens last.back)
          (next.alike c.in-Alike.is));
      capped = one_more (λ s did. All (PostsAtMost LEAF) did) acts session own at last.capped
          (c.compare_next.ensures.capped c.in-Alike.is);
    }

pub returns-in-Apart-clause-apart : goal.returns-in-Apart-clause-apart
returns-in-Apart-clause-apart g c = λ row is.
    let sources = c.args.sources.items in
    let sets = map g.K.SessionScreens.meaning c.args.screens.items in
    let acts = kept c.args.acts.now in
    let session = c.loop-session.session in
    let last = c.loop-session.invariant in
    let next = c.compare_next.ensures.next in
    let own = c.as_slice-own.result.now in
    let same : row ≡ c.loop-session.row + c.in-Apart.index = cc in
    record {
      session = session;
      index = c.in-Apart.index;
      own = own;
      of_session = kept_at c.args.acts.now session c.index-acts-session.result c.loop-session-test.true
          c.index-acts-session.is ∙ ap (λ (o : List Act). Some o) (sym c.as_slice-own.ensures.value);
      before = last.alike;
      differs = apart_as c.args.limits.now (map g.S.Source.left sources) sets session own
          (g.S.Source.left next.one) next.set
          (left_is next sources sets session last.count last.rest last.screens last.back)
          (set_is next sources sets session last.count last.rest last.screens last.back)
          c.in-Apart.index (next.apart c.in-Apart.index c.in-Apart.is);
      inside = c.compare_next.ensures.inside c.in-Apart.index c.in-Apart.is;
      row_is = same ∙ ap (λ n. n + c.in-Apart.index) last.row;
    }

pub returns-in-Apart-clause-back : goal.returns-in-Apart-clause-back
returns-in-Apart-clause-back g c =
    let last = c.loop-session.invariant in
    next_all_back c.compare_next.ensures.next c.args.sources.items
    (map g.K.SessionScreens.meaning c.args.screens.items)
    c.loop-session.session last.count last.rest last.screens last.back _ c.with_rest.ensures.sources

pub returns-in-ReadFault-clause-back : goal.returns-in-ReadFault-clause-back
returns-in-ReadFault-clause-back g c =
    let last = c.loop-session.invariant in
    next_all_back c.compare_next.ensures.next c.args.sources.items
    (map g.K.SessionScreens.meaning c.args.screens.items)
    c.loop-session.session last.count last.rest last.screens last.back _ c.with_rest-in-ReadFault.ensures.sources

pub returns-in-ReadFault-clause-read_fault : goal.returns-in-ReadFault-clause-read_fault
returns-in-ReadFault-clause-read_fault g c = λ is.
    let last = c.loop-session.invariant in
    record {
      session = c.loop-session.session;
      rose = next_rose c.compare_next.ensures.next c.args.sources.items
          (map g.K.SessionScreens.meaning c.args.screens.items)
          c.loop-session.session last.count last.rest last.screens last.back c.in-ReadFault.is _
          c.with_rest-in-ReadFault.ensures.sources;
      earlier = last.alike;
    }

pub returns-in-Memory-clause-back : goal.returns-in-Memory-clause-back
returns-in-Memory-clause-back g c =
    let last = c.loop-session.invariant in
    next_all_back c.compare_next.ensures.next c.args.sources.items
    (map g.K.SessionScreens.meaning c.args.screens.items)
    c.loop-session.session last.count last.rest last.screens last.back _ c.with_rest-in-Memory.ensures.sources

pub returns-clause-alike : goal.returns-clause-alike
returns-clause-alike g c = λ is.
    let end : c.loop-session.session ≡ length c.args.acts.now =
    omega (arith, c.loop-session-test.false, c.loop-session.auto.session-end) in
    subst (AreAlike c.args.limits.now (map g.S.Source.left c.args.sources.items)
    (map g.K.SessionScreens.meaning c.args.screens.items) (kept c.args.acts.now)) end
    c.loop-session.invariant.alike

pub returns-clause-capped : goal.returns-clause-capped
returns-clause-capped g c = λ is session own at.
    c.loop-session.invariant.capped session own
    (omega (
      arith,
      slice_get_within (kept c.args.acts.now) session own at,
      kept_count c.args.acts.now,
      c.loop-session-test.false,
    )) at

pub returns-clause-back : goal.returns-clause-back
returns-clause-back g c =
    let last = c.loop-session.invariant in
    subst (AreBack g.S.Source.faults g.S.Source.name c.args.sources.items)
    (sym (c.with_rest-2.ensures.sources ∙ ap (λ r. c.loop-session.progress.back.items ++ r) last.rest))
    (all_back g.S.Source.faults g.S.Source.name c.args.sources.items c.loop-session.progress.back.items
    c.loop-session.session last.count
    (omega (arith, c.loop-session.auto.session-end, c.requires.count)) last.back)
