-- Fields that are to be written, and what was written.
use Rattle.std.specs.Prelude.{◌≡◌, ℕ, ◌+◌, ◌≤◌, List, length, Option, Some, IsTrue}
use Rattle.std.specs.Prelude.{Bool, true, false, Ok}
use Rattle.std.specs.List.{list_all}
use Rattle.fix_fields.specs.Fields.{FieldValue, field, fields_text, is_value_byte}
use Rattle.fix_fields.specs.IdText.{IsId}
use Rattle.fix_fields.specs.Places.{HasFieldsIn}
use Rattle.fix_fields.specs.declared.frame.Frame.{Frame}
use Rattle.fix_fields.specs.declared.writer.TheConstants.{WRITTEN_MOST}
use Rattle.fix_orders.specs.declared.message.Message.{Message}
use Rattle.fix_orders.specs.declared.message.Message.TheVariants as message
use Rattle.fix_orders.specs.declared.message.Stamp.{Stamp}
use Rattle.fix_orders.specs.declared.put.Part.{Part}
use Rattle.fix_orders.specs.Faults.{value_of}
use Rattle.fix_orders.specs.Reading.{read_of}

-- a value of at most 64 bytes, without SOH
pub record IsShort (text : List ℕ) : Type 0 where
  pub without_soh : IsTrue (list_all is_value_byte text)
  pub few : length text ≤ 64

-- the largest number of a message that is written: one of eight digits
abbrev pub seq_most : ℕ
seq_most = 99999999

-- a number of a message: one of at most eight digits
pub record IsSeq (seq : ℕ) : Type 0 where
  pub least : 1 ≤ seq
  pub most : seq ≤ seq_most

-- a number of a message, and two ids
pub record IsStamp (stamp : Stamp) : Type 0 where
  pub number : IsSeq stamp.seq
  pub target : IsId stamp.target
  pub time : IsId stamp.time

-- the field that is written
abbrev pub part_value : Part → FieldValue
part_value part = field part.0 part.1.now

-- the body so far is these fields
abbrev pub HasPut : List FieldValue → Option (List ℕ) → Type 0
HasPut fields writer = writer ≡ Some (fields_text fields)

-- the body so far has room for these fields too
abbrev pub HasRoom : List FieldValue → Option (List ℕ) → Type 0
HasRoom more writer =
    (fields : List FieldValue) × HasPut fields writer
    × (length (fields_text fields) + length (fields_text more) ≤ WRITTEN_MOST)

-- the value of MsgType (35) of some sound frame
abbrev pub IsTypeText : List ℕ → Type 0
IsTypeText text =
    (bytes : List ℕ) × (frame : Frame) × (listed : List FieldValue)
    × HasFieldsIn bytes frame listed × (text ≡ value_of 35 listed)

-- a message that is passed on: an order, a request, a report or the refusal of a request
abbrev pub is_passed : Message → Bool
is_passed (message.New order) = true
is_passed (message.Cancel request) = true
is_passed (message.Replace request) = true
is_passed (message.Report report) = true
is_passed (message.CancelReject refusal) = true
is_passed message.Admin = false
is_passed message.Other = false

-- the frame is sound, and `read_message` answers it with this message
pub record IsReadAs (bytes : List ℕ) (frame : Frame) (whole : Message) : Type 0 where
  pub listed : List FieldValue
  pub stands : HasFieldsIn bytes frame listed
  pub read : read_of listed ≡ Ok whole

-- the frame is sound, and `read_message` answers it with a message that is passed on
abbrev pub IsPassedOn : List ℕ → Frame → Type 0
IsPassedOn bytes frame =
    (whole : Message) × IsReadAs bytes frame whole × (is_passed whole ≡ true)
