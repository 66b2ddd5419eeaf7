-- The hands, the source and the sinks at the end.
use Rattle.std.proofs.Common.{◌≡◌, [], ◌∷◌, ◌++◌, refl, sym, ap, ◌∙◌, map, false, inl, arith}
use Rattle.std.specs.Prelude.{Result, Ok, Err, OnOk, is_err}
use Rattle.frame_run.proofs.Streaming.{fetches_none}
use Rattle.limit_table.specs.Trees.{halt_tree}
use Rattle.risk_journal.specs.declared.acts.Act.TheVariants.{Ended}
use Rattle.risk_journal.specs.declared.acts.End.TheVariants as ending
use Rattle.risk_journal.specs.ActLists.{calls_below, calls_at}
use Rattle.screen_kit.specs.Screens.{armed}
use Rattle.session_engine.specs.Running.{Running}
use Rattle.session_engine.proofs.RunLemmas.{took_none}
use Rattle.session_engine.proofs.Stopping.{ran_by, ran_first}
use Rattle.session_engine.proofs.run.run_start.Goals as goal

-- where the screens were not armed, nothing was done
pub returns-then-is_err-clause-hands : goal.returns-then-is_err-clause-hands
returns-then-is_err-clause-hands g c =
    let sum = c.close.ensures.sum ∙ ap (λ (r : Running _ _ _). r.desk.hands.sum) c.open.ensures in
    let halt = c.close.ensures.halt ∙ ap (λ (r : Running _ _ _). r.desk.hands.halt) c.open.ensures in
    record {
      sum_origin = rw sum (g.met.H.Hand.origin_same c.args.start.hands.sum);
      halt_origin = rw halt (g.met.M.Hand.origin_same c.args.start.hands.halt);
      sum_calls = c.close.ensures.sum_calls
          ∙ ap (λ (r : Running _ _ _). calls_below (halt_tree r.desk.limits) c.close.result.acts.items)
          c.open.ensures;
      halt_calls = c.close.ensures.halt_calls
          ∙ ap (λ (r : Running _ _ _). calls_at (halt_tree r.desk.limits) c.close.result.acts.items)
          c.open.ensures;
    }

pub returns-then-is_err-clause-source : goal.returns-then-is_err-clause-source
returns-then-is_err-clause-source g c =
    rw (c.close.ensures.source, c.close.ensures.end) (record {
      fetched = fetches_none (g.S.Source.left c.args.source);
      later = omega arith;
      name_is = refl;
      read_fault = λ is. absurd cc;
      whole = λ is. absurd cc;
    })

pub take_input-end-requires : goal.take_input-end-requires
take_input-end-requires g c = record {
  fresh = λ input. took_none g.K.Screen.meaning c.open-2.result (rw c.open-2.ensures (record {
    acts = c.requires.fresh.acts_are;
    book = c.requires.book;
    counts = refl;
    client_id = refl;
  }));
}

-- what holds of a value that is there
on_ok : {X E P : Type 0} (r : Result X E) → OnOk r P → is_err r ≡ false → P
on_ok (Ok x) on is = on
on_ok (Err e) on is = absurd cc

pub returns-clause-follows : goal.returns-clause-follows
returns-clause-follows g c =
    let now : Running _ _ _ = c.take_input-end.new.taker in
    let view : c.session.inside.session ≡ now = c.session.view_is in
    let screens = map g.K.Screen.meaning c.args.screens.items in
    let ready = on_ok c.arm_all.result c.arm_all.ensures.ok
    (sym c.is_err.ensures.value ∙ c.if-is_err.false)
    ∙ ap (λ n. map (armed (record { repeat = n })) screens) c.repeat.ensures in
    let from_open = ran_by g.K.Screen.meaning c.open-2.result now
    (g.S.Source.left c.args.source) (g.S.Source.left c.take_input-end.new.source)
    g.H.Hand.SameOrigin g.M.Hand.SameOrigin c.take_input-end.result
    (ap (λ (r : Running _ _ _). r.desk.hands.acts) c.open-2.ensures ∙ c.requires.fresh.acts_are)
    c.take_input-end.ensures.after c.take_input-end.ensures.follows
    c.take_input-end.ensures.stopped in
    let from_start = rw c.open-2.ensures at from_open in
    let from_armed = rw ready at from_start in
    rw (
      c.close-2.ensures.acts,
      c.close-2.ensures.end,
      c.close-2.ensures.source,
      c.close-2.ensures.venue,
      c.close-2.ensures.client,
      view,
    ) from_armed

-- where the screens were not armed, no frame was taken
pub returns-then-is_err-clause-follows : goal.returns-then-is_err-clause-follows
returns-then-is_err-clause-follows g c =
    let acts : c.close.result.acts.items ≡ Ended ending.Memory ∷ [] =
    c.close.ensures.acts
    ∙ ap (λ (r : Running _ _ _). r.desk.hands.acts ++ Ended ending.Memory ∷ []) c.open.ensures
    ∙ ap (λ l. l ++ Ended ending.Memory ∷ []) c.requires.fresh.acts_are in
    let venue = c.close.ensures.venue ∙ ap (λ (r : Running _ _ _). r.venue) c.open.ensures in
    let client = c.close.ensures.client ∙ ap (λ (r : Running _ _ _). r.client) c.open.ensures in
    rw (c.close.ensures.end, c.close.ensures.source, venue, client)
    (ran_first _ _ (g.S.Source.left c.args.source) c.close.result.acts.items _ _ (inl acts))
