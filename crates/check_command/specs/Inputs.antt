-- Sources that are opened one after another, and given back, each under the name in its place.
use Rattle.std.specs.Prelude.{◌≡◌, ◌≢◌, ℕ, ◌<◌, List, [], length, Option, Some, slice_get}
use Rattle.std.specs.Prelude.{slice_index_or}
use Rattle.gate_ports.specs.Names.{Texts}
use Rattle.gate_files.specs.declared.status.Status.{Status}
use Rattle.gate_files.specs.Ports.{PortsValue, ReadRose}
use Rattle.gate_files.specs.Stages.{IsNewSource, IsOwn, IsUnread, Went}

-- the name in a place, from 0
abbrev pub name_in : List (List ℕ) → ℕ → List ℕ
name_in names place = slice_index_or names place []

-- each source was opened for the name in its place, and has its text left
pub record AreNew {S : Type 0} (left name : S → Option (List ℕ)) (faults : S → ℕ)
    (told : Option Texts) (names : List (List ℕ)) (sources : List S) : Type 0 where
  pub each : (place : ℕ) (one : S) → slice_get sources place ≡ Some one
      → IsNewSource told (name_in names place) (left one) (name one) (faults one)

-- each source may be given back under the name in its place
pub record AreOwn {S : Type 0} (name : S → Option (List ℕ)) (told : Option Texts)
    (names : List (List ℕ)) (sources : List S) : Type 0 where
  pub each : (place : ℕ) (one : S) → slice_get sources place ≡ Some one
      → IsOwn told (name_in names place) (name one)

-- The sources were given back. A fault of a source is one of its name, and no text changed.
pub record AreGivenBack {S : Type 0} (faults : S → ℕ) (names : List (List ℕ))
    (before after : PortsValue) (sources : List S) : Type 0 where
  pub went : Went before after
  pub texts : after.texts ≡ before.texts
  pub causes : (place : ℕ) (one : S) → slice_get sources place ≡ Some one → faults one ≢ 0
      → ReadRose before after (name_in names place)

-- why one of these names was not opened
pub record HasUnopened (names : List (List ℕ)) (before after : PortsValue) (standing : Status)
    : Type 0 where
  pub place : ℕ
  pub in_range : place < length names
  pub cause : IsUnread before after (name_in names place) standing
