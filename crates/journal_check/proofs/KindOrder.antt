-- The first kind of fault that applies, by what was found.
use Rattle.std.proofs.Common.{◌≡◌, ℕ, ◌<◌, ◌≤◌, List, length, map, ◌∙◌, sym, arith, inl, inr, ⊎_elim, refl, subst}
use Rattle.std.specs.Prelude.{Option, ⊤}
use Rattle.std.proofs.lemmas.List.{length-map}
use Rattle.limit_table.specs.Trees.{LimitsValue, halt_tree}
use Rattle.risk_board.specs.declared.hand.Line.{Line}
use Rattle.risk_journal.specs.declared.acts.Act.{Act}
use Rattle.screen_kit.specs.Screens.{ScreenValue}
use Rattle.std.proofs.lemmas.Option.{slice_get_within}
use Rattle.journal_check.specs.Answers.{AreTold, IfNo}
use Rattle.journal_check.specs.declared.judging.Checked.{Checked}
use Rattle.journal_check.specs.declared.judging.Checked.TheVariants as answered
use Rattle.journal_check.specs.Faults.{case_of, told, Kind, kind_number, IsFault, IsFirstKind, HasNoFault, IsWrongAct}
use Rattle.journal_check.specs.Faults.Kind.{Text, Count, EndedEarly, Tree, Acts, Lines, Reads}
use Rattle.journal_check.specs.LineFaults.{IsLineFault, AreRightTrees}
use Rattle.journal_check.specs.ReadFaults.{IsWrongRead}
use Rattle.journal_check.specs.RowFaults.{IsRowFault, HasNoRowFault}
use Rattle.journal_check.specs.Sessions.{AreAlike, IsFirstApart}
use Rattle.journal_check.specs.TreeFaults.{IsTreeFault, AreRightAll}
use Rattle.journal_check.specs.FarRows.{IsEarlyRow}
use Rattle.journal_check.specs.declared.judging.CheckFault.{CheckFault}
use Rattle.journal_check.proofs.SessionRows.{none_apart, first_apart}

-- where all lines are right and each post has one, no line is at fault
no_line_fault : (acts : List (List Act)) (lines : List (List Line)) → AreRightTrees acts lines
    → (row : ℕ) → ¬ IsLineFault acts lines row
no_line_fault acts lines right row fault = ⊎_elim
    (λ first.
    let wrong = first.wrong in
    wrong.wrong ((right wrong.tree).right wrong.place wrong.line
    (slice_get_within _ wrong.place wrong.line wrong.has.at) wrong.has.at))
    (λ lacks.
    let short = lacks.lacks.lacks in
    absurd (omega (arith, short.fewer, (right lacks.lacks.tree).all short.session)))
    fault

no_read_fault : (last : ℕ) (acts : List (List Act)) (lines : List (List Line))
    → AreRightAll last acts lines → (row : ℕ) → ¬ IsWrongRead last acts lines row
no_read_fault last acts lines right row wrong =
    wrong.wrong (right.reads wrong.tree wrong.index wrong.read
    (slice_get_within _ wrong.index wrong.read wrong.at) wrong.at)

-- a fault of the trees is of a kind above those of the rows
pub tree_kind : (last : ℕ) (acts : List (List Act)) (lines : List (List Line)) (fault : CheckFault)
    → IsTreeFault last acts lines fault → 5 ≤ fault.kind
tree_kind last acts lines fault found = elim found as (λ f. 5 ≤ fault.kind) [
  | inl first ↦ let is = first.kind_is in omega (arith, is)
  | inr first ↦ let is = first.kind_is in omega (arith, is)
]

-- a fault is answered
abbrev is_no : Checked → Type 0
is_no answered.Yes = ⊥
is_no (answered.No fault) = ⊤
is_no answered.ReadFault = ⊥
is_no answered.Memory = ⊥

-- no is not yes
pub no_yes : (fault : CheckFault) → ¬ (answered.No fault ≡ answered.Yes)
no_yes fault is = subst is_no is tt

-- what is said of a fault that is answered says something else of it
pub if_no_more : (P Q : CheckFault → Type 0) (answer : Checked) → ((fault : CheckFault) → P fault → Q fault)
    → IfNo answer P → IfNo answer Q
if_no_more P Q answered.Yes more is = tt
if_no_more P Q (answered.No fault) more is = more fault is
if_no_more P Q answered.ReadFault more is = tt
if_no_more P Q answered.Memory more is = tt

module _ (limits : LimitsValue) (text : List ℕ) (left : List (Option (List ℕ)))
    (screens : List (List ScreenValue)) (acts : List (List Act)) (lines : List (List Line)) where
  sessions_are : length (map told left) ≡ length left
  sessions_are = length-map left told

  before_count : (other : Kind) (at : ℕ) → kind_number other < 2
      → ¬ IsFault (case_of limits text left screens) acts lines other at
  before_count Text at less fault = fault
  before_count Count at less fault = absurd (omega (arith, less))
  before_count EndedEarly at less fault = absurd (omega (arith, less))
  before_count Tree at less fault = absurd (omega (arith, less))
  before_count Acts at less fault = absurd (omega (arith, less))
  before_count Lines at less fault = absurd (omega (arith, less))
  before_count Reads at less fault = absurd (omega (arith, less))

  before_early : length acts ≡ length left → (other : Kind) (at : ℕ) → kind_number other < 3
      → ¬ IsFault (case_of limits text left screens) acts lines other at
  before_early count Text at less fault = fault
  before_early count Count at less fault = fault.0 (count ∙ sym sessions_are)
  before_early count EndedEarly at less fault = absurd (omega (arith, less))
  before_early count Tree at less fault = absurd (omega (arith, less))
  before_early count Acts at less fault = absurd (omega (arith, less))
  before_early count Lines at less fault = absurd (omega (arith, less))
  before_early count Reads at less fault = absurd (omega (arith, less))

  before_tree : length acts ≡ length left → ((row : ℕ) → ¬ IsEarlyRow acts row)
      → (other : Kind) (at : ℕ) → kind_number other < 4
      → ¬ IsFault (case_of limits text left screens) acts lines other at
  before_tree count no_early Text at less fault = fault
  before_tree count no_early Count at less fault = fault.0 (count ∙ sym sessions_are)
  before_tree count no_early EndedEarly at less fault = no_early at fault.wrong
  before_tree count no_early Tree at less fault = absurd (omega (arith, less))
  before_tree count no_early Acts at less fault = absurd (omega (arith, less))
  before_tree count no_early Lines at less fault = absurd (omega (arith, less))
  before_tree count no_early Reads at less fault = absurd (omega (arith, less))

  -- a fault of the rows alone is the first
  pub row_first : (fault : CheckFault) → IsRowFault (length left) (halt_tree limits) acts lines fault
      → IsFirstKind (case_of limits text left screens) acts lines fault.kind fault.row
  row_first fault found = elim found as (λ f. IsFirstKind (case_of limits text left screens) acts lines fault.kind fault.row) [
    | inl first ↦ record {
      of_kind = Count;
      kind_is = first.kind_is;
      fault = ((λ same. first.apart (same ∙ sessions_are)), first.row_is);
      before = before_count;
    }
    | inr other ↦ elim other as (λ f. IsFirstKind (case_of limits text left screens) acts lines fault.kind fault.row) [
      | inl first ↦ record {
        of_kind = EndedEarly;
        kind_is = first.kind_is;
        fault = first.first;
        before = before_early first.count;
      }
      | inr first ↦ record {
        of_kind = Tree;
        kind_is = first.kind_is;
        fault = first.first;
        before = before_tree first.count first.no_early;
      }
    ]
  ]

  module _ (rows : HasNoRowFault (length left) (halt_tree limits) acts lines) where
    pub before_acts : (other : Kind) (at : ℕ) → kind_number other < 5
        → ¬ IsFault (case_of limits text left screens) acts lines other at
    before_acts Text at less fault = fault
    before_acts Count at less fault = fault.0 (rows.count ∙ sym sessions_are)
    before_acts EndedEarly at less fault = rows.no_early at fault.wrong
    before_acts Tree at less fault = rows.no_far at fault.wrong
    before_acts Acts at less fault = absurd (omega (arith, less))
    before_acts Lines at less fault = absurd (omega (arith, less))
    before_acts Reads at less fault = absurd (omega (arith, less))

    -- so is an act that differs, where the rows have none
    pub acts_first : (row : ℕ) → AreTold left → IsFirstApart limits left screens acts row
        → IsFirstKind (case_of limits text left screens) acts lines 5 row
    acts_first row are_told first = record {
      of_kind = Acts;
      kind_is = refl;
      fault = first_apart limits text left screens acts are_told rows.count row first;
      before = before_acts;
    }

    module _ (are_told : AreTold left) (alike : AreAlike limits left screens acts (length acts)) where
      no_act : (row : ℕ) → ¬ IsWrongAct (case_of limits text left screens) acts row
      no_act = none_apart limits text left screens acts are_told rows.count alike

      before_lines : (other : Kind) (at : ℕ) → kind_number other < 6
          → ¬ IsFault (case_of limits text left screens) acts lines other at
      before_lines Text at less fault = fault
      before_lines Count at less fault = fault.0 (rows.count ∙ sym sessions_are)
      before_lines EndedEarly at less fault = rows.no_early at fault.wrong
      before_lines Tree at less fault = rows.no_far at fault.wrong
      before_lines Acts at less fault = no_act at fault.wrong
      before_lines Lines at less fault = absurd (omega (arith, less))
      before_lines Reads at less fault = absurd (omega (arith, less))

      before_reads : AreRightTrees acts lines → (other : Kind) (at : ℕ) → kind_number other < 7
          → ¬ IsFault (case_of limits text left screens) acts lines other at
      before_reads right Text at less fault = fault
      before_reads right Count at less fault = fault.0 (rows.count ∙ sym sessions_are)
      before_reads right EndedEarly at less fault = rows.no_early at fault.wrong
      before_reads right Tree at less fault = rows.no_far at fault.wrong
      before_reads right Acts at less fault = no_act at fault.wrong
      before_reads right Lines at less fault = no_line_fault acts lines right at fault
      before_reads right Reads at less fault = absurd (omega (arith, less))

      -- so is a fault of the trees, where the sessions have none
      pub trees_first : (fault : CheckFault) → IsTreeFault (halt_tree limits) acts lines fault
          → IsFirstKind (case_of limits text left screens) acts lines fault.kind fault.row
      trees_first fault found = elim found as (λ f. IsFirstKind (case_of limits text left screens) acts lines fault.kind fault.row) [
        | inl first ↦ record {
          of_kind = Lines;
          kind_is = first.kind_is;
          fault = first.first;
          before = before_lines;
        }
        | inr first ↦ record {
          of_kind = Reads;
          kind_is = first.kind_is;
          fault = first.first;
          before = before_reads first.right;
        }
      ]

      -- and where they have none either, there is none
      pub no_kind : AreRightAll (halt_tree limits) acts lines
          → HasNoFault (case_of limits text left screens) acts lines
      no_kind right Text at fault = fault
      no_kind right Count at fault = fault.0 (rows.count ∙ sym sessions_are)
      no_kind right EndedEarly at fault = rows.no_early at fault.wrong
      no_kind right Tree at fault = rows.no_far at fault.wrong
      no_kind right Acts at fault = no_act at fault.wrong
      no_kind right Lines at fault = no_line_fault acts lines right.right at fault
      no_kind right Reads at fault =
          no_read_fault (halt_tree limits) acts lines right at fault.wrong
