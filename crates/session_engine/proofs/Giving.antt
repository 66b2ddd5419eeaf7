-- Messages that were given, or a front of them.
use Rattle.std.proofs.Common.{◌≡◌, ℕ, List, [], ◌++◌, length, refl, sym, subst, inl, inr, arith}
use Rattle.std.specs.Prelude.{Option, Some, None, IfSome, Result, Ok, Err, OnOk, OnErr, true, ◌⊎◌}
use Rattle.std.specs.Result.{is_ok}
use Rattle.fix_fields.specs.Fields.{FieldValue}
use Rattle.fix_fields.specs.Messages.{frame_text, message_text}
use Rattle.fix_orders.specs.Put.{HasPut}
use Rattle.gate_ports.specs.declared.ports.PortFault.{PortFault}
use Rattle.std.specs.Io.KnownBytes.{Appends}
use Rattle.std.proofs.lemmas.Bool.{false≢true}
use Rattle.std.proofs.lemmas.List.{take_all}
use Rattle.gate_ports.specs.Bytes.{AppendsFront}
use Rattle.screen_kit.specs.Screens.{ScreenValue}
use Rattle.frame_run.specs.Frames.{FrameIn}
use Rattle.session_engine.specs.Running.{Running, GivesNext, HasTaken, TakesFront, kept_of}
use Rattle.session_engine.specs.Taken.{Gives, TakesSound}
use Rattle.session_engine.proofs.TakenLemmas.{appends_nothing}

-- what a sink would hold with a piece more
abbrev with_piece : Option (List ℕ) → List ℕ → Option (List ℕ)
with_piece None piece = None
with_piece (Some held) piece = Some (held ++ piece)

with_piece-appends : (held : Option (List ℕ)) (piece : List ℕ)
    → Appends held (with_piece held piece) piece
with_piece-appends None piece = tt
with_piece-appends (Some held) piece = refl

-- a piece was given whole
pub gives_all : (Says : Option (List ℕ) → Type 0) (given : Type 0)
    (held held_after : Option (List ℕ)) (piece : List ℕ) → Appends held held_after piece
    → Says held_after → Gives given held held_after Says
gives_all Says given held held_after piece appends says = record {
  whole = held_after;
  front = record {
    piece = piece;
    count = length piece;
    would = appends;
    got = subst (Appends held held_after) (sym (take_all (length piece) piece (omega arith)))
        appends;
    all = λ given. refl;
  };
  says = says;
}

-- or a front of it
pub gives_front : (Says : Option (List ℕ) → Type 0) (given : Type 0)
    (held held_after : Option (List ℕ)) (piece : List ℕ) → (given → ⊥)
    → AppendsFront held held_after piece
    → ((whole : Option (List ℕ)) → Appends held whole piece → Says whole)
    → Gives given held held_after Says
gives_front Says given held held_after piece none front says =
    let would = with_piece-appends held piece in
    record {
      whole = with_piece held piece;
      front = record {
        piece = piece;
        count = front.0;
        would = would;
        got = front.2;
        all = λ is. absurd (none is);
      };
      says = says (with_piece held piece) would;
    }

-- what was written was given, or a front of it
pub gives_written : (given : Type 0) (result : Result (Unit {0}) PortFault)
    (held held_after : Option (List ℕ)) (piece : List ℕ) (writer : Option (List ℕ))
    → (given → is_ok result ≡ true) → OnOk result (Appends held held_after piece)
    → OnErr result (AppendsFront held held_after piece)
    → IfSome writer (λ body. piece ≡ frame_text body)
    → Gives given held held_after (λ whole. (fields : List FieldValue) → HasPut fields writer
    → Appends held whole (message_text fields))
gives_written given result held held_after piece writer is ok err written = by result is ok err
  where
    text : (fields : List FieldValue) → HasPut fields writer → piece ≡ message_text fields
    text fields put = subst (λ w. IfSome w (λ body. piece ≡ frame_text body)) put written

    says : (whole : Option (List ℕ)) → Appends held whole piece → (fields : List FieldValue)
        → HasPut fields writer → Appends held whole (message_text fields)
    says whole appends fields put = subst (Appends held whole) (text fields put) appends

    by : (result : Result (Unit {0}) PortFault) → (given → is_ok result ≡ true)
        → OnOk result (Appends held held_after piece)
        → OnErr result (AppendsFront held held_after piece)
        → Gives given held held_after (λ whole. (fields : List FieldValue) → HasPut fields writer
        → Appends held whole (message_text fields))
    by (Ok done) is ok err = gives_all _ given held held_after piece ok (says held_after ok)
    by (Err why) is ok err = gives_front _ given held held_after piece (λ has. false≢true (is has)) err says

-- a frame without a message was taken
pub takes_all : {H M K : Type 0} (meaning : K → ScreenValue) (sound : FrameIn)
    (given failed : Type 0) (before now : Running H M K) → HasTaken meaning sound before now
    → now.venue.held ≡ before.venue.held → (failed → ⊥)
    → TakesFront meaning sound given failed before now
takes_all meaning sound given failed before now taken same none = record {
  venue = now.venue.held;
  client = now.client.held;
  taken = taken;
  gives = inl (
    record {
      front = record {
        piece = [];
        count = 0;
        would = appends_nothing before.venue.held now.venue.held same;
        got = appends_nothing before.venue.held now.venue.held same;
        all = λ is. refl;
      };
      rose = λ is. absurd (none is);
      next = λ is. absurd (none is);
    },
    refl,
  );
}

-- a frame that was given whole was taken
pub taken_whole : {H M K : Type 0} (meaning : K → ScreenValue) (sound : FrameIn)
    (given failed : Type 0) (before now : Running H M K)
    → TakesFront meaning sound given failed before now → given → HasTaken meaning sound before now
taken_whole meaning sound given failed before now takes is =
    let T : Option (List ℕ) → Option (List ℕ) → Type 0 = λ v c. TakesSound before.desk.limits sound
    (kept_of meaning before) (record (kept_of meaning now) { venue = v; client = c }) in
    by T takes.taken takes.gives
  where
    by : (T : Option (List ℕ) → Option (List ℕ) → Type 0) → T takes.venue takes.client
        → (GivesNext given failed before.venue now.venue before.counts.venue now.counts.venue
        takes.venue × (now.client.held ≡ takes.client))
        ⊎ (GivesNext given failed before.client now.client before.counts.client
        now.counts.client takes.client × (now.venue.held ≡ takes.venue))
        → T now.venue.held now.client.held
    by T taken (inl (gives, other)) =
        subst (λ v. T v now.client.held) (sym (gives.front.all is))
        (subst (T takes.venue) (sym other) taken)
    by T taken (inr (gives, other)) =
        subst (λ v. T v now.client.held) (sym other)
        (subst (T takes.venue) (sym (gives.front.all is)) taken)
