-- What was given to sinks, or a front of it, and where a frame stands.
use Rattle.std.specs.Prelude.{◌≡◌, ℕ, List, [], ◌∷◌, ◌++◌, take, Option, Some, None}
use Rattle.std.proofs.Common.{sym, ap, ◌∙◌}
use Rattle.std.specs.List.{concat}
use Rattle.std.specs.Io.KnownBytes.{Appends}
use Rattle.std.proofs.lemmas.List.{append-nil}
use Rattle.fix_fields.specs.Fields.{FieldValue}
use Rattle.fix_fields.specs.Found.{StandsAt}
use Rattle.fix_fields.specs.declared.frame.Frame.{Frame}

-- the frame stands somewhere in the bytes
abbrev pub StandsIn : List ℕ → Frame → Type 0
StandsIn bytes frame =
    (from : ℕ) × (fields : Option (List FieldValue)) × StandsAt bytes from frame fields

-- A piece, or a front of it, was given to a sink. With all of the piece the sink would hold the whole,
-- and it does so where all was given.
pub record GivesFront (given : Type 0) (held held_after whole : Option (List ℕ)) : Type 0 where
  pub piece : List ℕ
  pub count : ℕ
  pub would : Appends held whole piece
  pub got : Appends held held_after (take count piece)
  pub all : given → held_after ≡ whole

-- a message was given so, of which this is said by what the sink would hold
pub record Gives (given : Type 0) (held held_after : Option (List ℕ))
    (Says : Option (List ℕ) → Type 0) : Type 0 where
  pub whole : Option (List ℕ)
  pub front : GivesFront given held held_after whole
  pub says : Says whole

-- the messages with at most one more
abbrev pub with_message : Option (List ℕ) → List (List ℕ) → List (List ℕ)
with_message None messages = messages
with_message (Some text) messages = messages ++ text ∷ []

-- the text of at most one message
abbrev pub text_in : Option (List ℕ) → List ℕ
text_in None = []
text_in (Some text) = text

-- The text has all of these messages, and goes on within those.
pub record IsBetween (before after : List (List ℕ)) (text : List ℕ) : Type 0 where
  pub more : List ℕ
  pub rest : List ℕ
  pub begins : text ≡ concat before ++ more
  pub within : concat after ≡ text ++ rest

-- the same of messages that are these
pub between_by : (before after others nexts : List (List ℕ)) (text : List ℕ) → others ≡ before
    → nexts ≡ after → IsBetween before after text → IsBetween others nexts text
between_by before after others nexts text same next b = record {
  more = b.more;
  rest = b.rest;
  begins = b.begins ∙ ap (λ m. concat m ++ b.more) (sym same);
  within = ap concat next ∙ b.within;
}

-- nothing is lacking
pub between_same : (before after : List (List ℕ)) → before ≡ after → IsBetween before after (concat after)
between_same before after same = record {
  more = [];
  rest = [];
  begins = ap concat (sym same) ∙ sym (append-nil (concat before));
  within = sym (append-nil (concat after));
}
