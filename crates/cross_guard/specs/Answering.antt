-- What answering a frame does: it is passed on, or what refuses it goes to the client.
use Rattle.std.specs.Prelude.{◌≡◌, ℕ, ◌+◌, ◌≤◌, ◌<◌, List, [], ◌∷◌, ◌++◌, Option, Some, None}
use Rattle.std.specs.Io.KnownBytes.{Appends}
use Rattle.fix_fields.specs.Fields.{FieldValue}
use Rattle.fix_fields.specs.Places.{HasFieldsIn}
use Rattle.fix_orders.specs.declared.message.Head.{Head}
use Rattle.fix_orders.specs.declared.message.Stamp.{Stamp}
use Rattle.fix_orders.specs.Put.{seq_most}
use Rattle.limit_table.specs.Trees.{LimitsValue}
use Rattle.risk_journal.specs.declared.acts.Act.{Act}
use Rattle.risk_journal.specs.declared.acts.Act.TheVariants.{Sent, Refused}
use Rattle.frame_run.specs.Frames.{FrameIn}
use Rattle.cross_guard.specs.declared.guarding.CrossVerdict.{CrossVerdict}
use Rattle.cross_guard.specs.Crossing.{Crossing, GivesNext}
use Rattle.cross_guard.specs.Resting.{RestingValue}
use Rattle.cross_guard.specs.Session.{Wording, code_of, with_value}

-- the acts with the value that the orders rest as posted in a symbol, if one is named, as far as that is
abbrev pub settled_by : LimitsValue → Option ℕ → List RestingValue → List Act → List Act
settled_by limits None orders acts = acts
settled_by limits (Some symbol) orders acts = with_value limits symbol orders acts

-- A frame's bytes, or a front of them, were given to the sink of what is passed. The frame is counted, and
-- nothing else changes.
pub record PassesOn {H : Type 0} (text : List ℕ) (given failed : Type 0) (before now : Crossing H)
    : Type 0 where
  pub pass : Option (List ℕ)
  pub would : Appends before.pass.held pass text
  pub gives : GivesNext given failed before.pass now.pass pass
  pub others : now ≡ record before { frames = before.frames + 1; pass = now.pass }

-- the same of an order or a replace, which is told before
pub record Sends {H : Type 0} (text : List ℕ) (given failed : Type 0) (before now : Crossing H)
    : Type 0 where
  pub pass : Option (List ℕ)
  pub would : Appends before.pass.held pass text
  pub gives : GivesNext given failed before.pass now.pass pass
  pub acts : now.told.acts ≡ before.told.acts ++ Sent before.frames ∷ []
  pub others : now ≡ record before {
    told = now.told;
    frames = before.frames + 1;
    pass = now.pass;
  }

-- the frame was refused: that is told and counted, and nothing else changes
pub record TellsRefusal {H : Type 0} (why : CrossVerdict) (before now : Crossing H) : Type 0 where
  pub acts : now.told.acts ≡ before.told.acts ++ Refused before.frames (code_of why) 0 0 ∷ []
  pub others : now ≡ record before {
    told = now.told;
    frames = before.frames + 1;
    refused = before.refused + 1;
  }

-- the answer to a message with this head, by its number
abbrev pub stamp_to : Head → ℕ → Stamp
stamp_to head number = record { target = head.sender; seq = number; time = head.time }

-- a refusal can be told and numbered
pub record CanRefuse {H : Type 0} (now : Crossing H) : Type 0 where
  pub room : 1 ≤ now.told.room
  pub frames : now.frames < seq_most
  pub refused : now.refused < seq_most

-- A sound frame was refused: that is told and counted, and whatever its fields are, what refuses it, or a
-- front of that, was given to the client. Nothing else changes.
pub record Refuses {H : Type 0} (wording : Wording) (sound : FrameIn) (why : CrossVerdict)
    (given failed : Type 0) (before now : Crossing H) : Type 0 where
  pub client : Option (List ℕ)
  pub would : (fields : List FieldValue) → HasFieldsIn sound.bytes sound.frame fields
      → Appends before.client.held client (wording (before.refused + 1) fields why)
  pub gives : GivesNext given failed before.client now.client client
  pub acts : now.told.acts ≡ before.told.acts ++ Refused before.frames (code_of why) 0 0 ∷ []
  pub others : now ≡ record before {
    told = now.told;
    frames = before.frames + 1;
    refused = before.refused + 1;
    client = now.client;
  }
