-- How a session begins, and how it leaves its hands and its ports.
use Rattle.std.specs.Prelude.{◌≡◌, ◌⊎◌, ℕ, ◌^◌, ◌≤◌, ◌<◌, List, [], length, Option, Bool, true}
use Rattle.limit_table.specs.Trees.{LimitsValue, halt_tree}
use Rattle.gate_ports.specs.Faults.{Rose}
use Rattle.exposure_book.specs.Books.{BookValue}
use Rattle.risk_board.specs.Hands.{HandValue}
use Rattle.risk_journal.specs.declared.acts.Act.{Act}
use Rattle.risk_journal.specs.declared.acts.End.{End}
use Rattle.risk_journal.specs.declared.acts.End.TheVariants as ending
use Rattle.risk_journal.specs.ActLists.{calls_below, calls_at}
use Rattle.screen_kit.specs.Screens.{ScreenValue}
use Rattle.admit_core.specs.Hands.{HandsValue, IsFresh, IsSumHand, IsHaltHand}
use Rattle.frame_run.specs.Sinks.{SinkValue, sink_of, IsLaterSink}
use Rattle.order_desk.specs.Values.{first_book}
use Rattle.session_engine.specs.Follows.{EndsAs, FetchesInput, Follows}

-- a hand on the trees of sums and one on the halt tree, which have made no call
pub record AreIdleHands (limits : LimitsValue) (sum halt : HandValue) : Type 0 where
  pub sum_is : IsSumHand limits sum
  pub no_sum_call : sum.calls ≡ []
  pub halt_is : IsHaltHand halt
  pub no_halt_call : halt.calls ≡ []

-- no call was made yet, and the book has no order
pub record IsBeginning {H M : Type 0} (limits : LimitsValue) (hands : HandsValue H M)
    (own_book : BookValue) : Type 0 where
  pub fresh : IsFresh limits hands.sum hands.halt hands
  pub book : own_book ≡ first_book limits

-- the same hands, which made the calls that the acts tell
pub record AreHandsDone {H M : Type 0} (limits : LimitsValue) (SameSum : H → H → Type 0)
    (sum_meaning : H → HandValue) (SameHalt : M → M → Type 0) (halt_meaning : M → HandValue)
    (sum sum_after : H) (halt halt_after : M) (acts : List Act) : Type 0 where
  pub sum_origin : SameSum sum sum_after
  pub halt_origin : SameHalt halt halt_after
  pub sum_calls : (sum_meaning sum_after).calls ≡ calls_below (halt_tree limits) acts
  pub halt_calls : (halt_meaning halt_after).calls ≡ calls_at (halt_tree limits) acts

-- What a session did and wrote, and with which last act; its acts are few. Its sinks are the same, of
-- which one failed where the end says so.
pub record Ran (limits : LimitsValue) (screens : List ScreenValue)
    (left left_after : Option (List ℕ)) (acts : List Act) (end : End)
    (venue venue_after client client_after : SinkValue) : Type 0 where
  pub follows : Follows limits screens left left_after acts end venue venue_after client
      client_after
  pub ends : EndsAs acts end
  pub few : length acts < 2 ^ 32
  pub venue_is : IsLaterSink venue venue_after
  pub client_is : IsLaterSink client client_after
  pub write_fault : end ≡ ending.WriteFault
      → Rose venue.faults venue_after.faults ⊎ Rose client.faults client_after.faults

-- the same from a source to sinks for the venue and for the client, as clauses name them
abbrev pub RanOver : {S V C : Type 0} → (S → Option (List ℕ)) → (V → Option (List ℕ)) → (V → ℕ)
    → (V → Option (List ℕ)) → (C → Option (List ℕ)) → (C → ℕ) → (C → Option (List ℕ))
    → LimitsValue → List ScreenValue → S → S → V → V → C → C → List Act → End → Type 0
RanOver left held faults name own_held own_faults own_name limits screens source source_after venue
    venue_after client client_after acts end =
    Ran limits screens (left source) (left source_after) acts end
    (sink_of held faults name venue) (sink_of held faults name venue_after)
    (sink_of own_held own_faults own_name client)
    (sink_of own_held own_faults own_name client_after)

-- The same source, of which few bytes were fetched. It failed where the end says so, and saw its end
-- where the end is whole.
pub record IsSourceDone {S : Type 0} (left : S → Option (List ℕ)) (faults : S → ℕ)
    (name : S → Option (List ℕ)) (is_ended : S → Bool) (before now : S) (end : End) : Type 0 where
  pub fetched : FetchesInput (left before) (left now) end
  pub later : faults before ≤ faults now
  pub name_is : name now ≡ name before
  pub read_fault : end ≡ ending.ReadFault → Rose (faults before) (faults now)
  pub whole : end ≡ ending.Whole → is_ended now ≡ true
