-- The objects that sessions give back are those that were opened.
use Rattle.std.proofs.Common.{◌≡◌, ℕ, List, sym, subst, arith}
use Rattle.std.proofs.lemmas.Option.{slice_get_within}
use Rattle.std.specs.Prelude.{Option}
use Rattle.gate_ports.specs.Names.{Texts, MeansName}
use Rattle.risk_journal.specs.declared.acts.Act.{Act}
use Rattle.risk_journal.specs.declared.acts.End.{End}
use Rattle.gate_files.specs.Words.{RunWords}
use Rattle.gate_files.specs.Stages.{IsOwn}
use Rattle.gate_files.specs.Objects.{ObjectsValue, EachOwn}
use Rattle.session_tasks.specs.Rules.{InputRule, EarlyRule}
use Rattle.session_tasks.specs.Did.{HaveDone}
use Rattle.gate_files.proofs.Lists.{there_is}

own_still : (told : Option Texts) (name : List ℕ) (before after : Option (List ℕ))
    → after ≡ before → IsOwn told name before → IsOwn told name after
own_still told name before after same own = record {
  means = subst (λ (n : Option (List ℕ)). MeansName n name) (sym same) own.means;
  there = own.there;
}

-- they may be given back still
pub own_after : (Input : ℕ → InputRule) (Early : ℕ → EarlyRule) (run : RunWords)
    (told : Option Texts) (before after : List ObjectsValue) (acts : List (List Act))
    (ends : List End) → HaveDone Input Early before after acts ends → EachOwn run told before
    → EachOwn run told after
own_after Input Early run told before after acts ends done own session now is =
    let inside = slice_get_within after session now is in
    let first = there_is before session (omega (arith, inside, done.object_count)) in
    let did = there_is acts session (omega (arith, inside, done.object_count, done.act_count)) in
    let end = there_is ends session (omega (arith, inside, done.object_count, done.end_count)) in
    let one = done.each session first.0 now did.0 end.0 first.1 is did.1 end.1 in
    let was = own session first.0 first.1 in
    record {
      input = own_still told _ _ _ one.input_name was.input;
      venue = own_still told _ _ _ one.venue_name was.venue;
      client = own_still told _ _ _ one.client_name was.client;
    }
