-- A piece was given whole, or a front of it.
use Rattle.std.proofs.Common.{◌≡◌, ℕ, List, ◌++◌, length, refl, sym, subst, arith}
use Rattle.std.specs.Prelude.{Option, Some, None, IfSome, Result, Ok, Err, OnOk, OnErr, true}
use Rattle.std.specs.Result.{is_ok}
use Rattle.std.specs.Io.KnownBytes.{Appends}
use Rattle.std.proofs.lemmas.Bool.{false≢true}
use Rattle.std.proofs.lemmas.List.{take_all}
use Rattle.fix_fields.specs.Fields.{FieldValue, fields_text}
use Rattle.fix_fields.specs.Messages.{frame_text, message_text}
use Rattle.gate_ports.specs.Bytes.{AppendsFront}
use Rattle.gate_ports.specs.declared.ports.PortFault.{PortFault}
use Rattle.cross_guard.specs.Giving.{Gives}

-- what a sink would hold with a piece more
abbrev with_piece : Option (List ℕ) → List ℕ → Option (List ℕ)
with_piece None piece = None
with_piece (Some held) piece = Some (held ++ piece)

with_piece-appends : (held : Option (List ℕ)) (piece : List ℕ)
    → Appends held (with_piece held piece) piece
with_piece-appends None piece = tt
with_piece-appends (Some held) piece = refl

-- a piece was given whole
pub gives_all : (Says : Option (List ℕ) → Type 0) (given : Type 0)
    (held held_after : Option (List ℕ)) (piece : List ℕ) → Appends held held_after piece
    → Says held_after → Gives given held held_after Says
gives_all Says given held held_after piece appends says = record {
  whole = held_after;
  front = record {
    piece = piece;
    count = length piece;
    would = appends;
    got = subst (Appends held held_after) (sym (take_all (length piece) piece (omega arith)))
        appends;
    all = λ given. refl;
  };
  says = says;
}

-- or a front of it
pub gives_front : (Says : Option (List ℕ) → Type 0) (given : Type 0)
    (held held_after : Option (List ℕ)) (piece : List ℕ) → (given → ⊥)
    → AppendsFront held held_after piece
    → ((whole : Option (List ℕ)) → Appends held whole piece → Says whole)
    → Gives given held held_after Says
gives_front Says given held held_after piece none front says =
    let would = with_piece-appends held piece in
    record {
      whole = with_piece held piece;
      front = record {
        piece = piece;
        count = front.0;
        would = would;
        got = front.2;
        all = λ is. absurd (none is);
      };
      says = says (with_piece held piece) would;
    }

-- a piece was given, or a front of it
pub gives_piece : (given : Type 0) (result : Result (Unit {0}) PortFault)
    (held held_after : Option (List ℕ)) (piece : List ℕ) → (given → is_ok result ≡ true)
    → OnOk result (Appends held held_after piece)
    → OnErr result (AppendsFront held held_after piece)
    → Gives given held held_after (λ whole. Appends held whole piece)
gives_piece given (Ok done) held held_after piece is ok err =
    gives_all (λ whole. Appends held whole piece) given held held_after piece ok ok
gives_piece given (Err why) held held_after piece is ok err =
    gives_front (λ whole. Appends held whole piece) given held held_after piece
    (λ has. false≢true (is has)) err (λ whole appends. appends)

-- what was written was given, or a front of it
pub gives_written : (given : Type 0) (result : Result (Unit {0}) PortFault)
    (held held_after : Option (List ℕ)) (piece : List ℕ) (writer : Option (List ℕ))
    → (given → is_ok result ≡ true) → OnOk result (Appends held held_after piece)
    → OnErr result (AppendsFront held held_after piece)
    → IfSome writer (λ body. piece ≡ frame_text body)
    → Gives given held held_after (λ whole. (fields : List FieldValue) → writer ≡ Some (fields_text fields)
    → Appends held whole (message_text fields))
gives_written given result held held_after piece writer is ok err written = by result is ok err
  where
    text : (fields : List FieldValue) → writer ≡ Some (fields_text fields) → piece ≡ message_text fields
    text fields put = subst (λ w. IfSome w (λ body. piece ≡ frame_text body)) put written

    says : (whole : Option (List ℕ)) → Appends held whole piece → (fields : List FieldValue)
        → writer ≡ Some (fields_text fields) → Appends held whole (message_text fields)
    says whole appends fields put = subst (Appends held whole) (text fields put) appends

    by : (result : Result (Unit {0}) PortFault) → (given → is_ok result ≡ true)
        → OnOk result (Appends held held_after piece)
        → OnErr result (AppendsFront held held_after piece)
        → Gives given held held_after (λ whole. (fields : List FieldValue) → writer ≡ Some (fields_text fields)
        → Appends held whole (message_text fields))
    by (Ok done) is ok err = gives_all _ given held held_after piece ok (says held_after ok)
    by (Err why) is ok err = gives_front _ given held held_after piece (λ has. false≢true (is has)) err says
