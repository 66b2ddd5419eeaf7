use Rattle.std.proofs.Common.{◌≡◌, ℕ, ◌+◌, ◌<◌, List, [], ◌∷◌, ◌++◌, take, get_or, length, ap, sym}
use Rattle.std.proofs.Common.{◌∙◌, append_assoc}
use Rattle.std.proofs.Common.{arith, subst, refl}
use Rattle.std.proofs.Common.{Option, Some, None}
use Rattle.std.specs.List.{flat_map}
use Rattle.std.specs.Io.KnownBytes.{Keeps}
use Rattle.csv.specs.Writing.{text_written}
use Rattle.std.proofs.lemmas.List.{take_more, take_all, append-nil}
use Rattle.std.proofs.lemmas.List.Concat.{flat_map-append}
use Rattle.limit_table.specs.Printing.{HasText, text_of, file_text, version_text, entries_in}
use Rattle.limit_table.specs.declared.version.Version.{Version}
use Rattle.limit_table.specs.declared.kind.Entry.{Entry}
use Rattle.limit_table.specs.Files.{IsLimitFile}
use Rattle.limit_table.proofs.Printed.{printed_is_file}
use Rattle.limit_table.proofs.printing.print_limits.Goals as goal

-- the text of one row more
text_more : (text : Entry → List ℕ) (rows : List Entry) (i : ℕ) (row : Entry) → i < length rows
    → row ≡ get_or rows i row
    → flat_map text (take i rows) ++ text row ≡ flat_map text (take (i + 1) rows)
text_more text rows i row in_range is =
    let split : take (i + 1) rows ≡ take i rows ++ row ∷ [] =
    take_more rows i row in_range ∙ ap (λ (e : Entry). take i rows ++ e ∷ []) (sym is) in
    ap (λ (s : List ℕ). flat_map text (take i rows) ++ s) (sym (append-nil (text row)))
    ∙ sym (flat_map-append text (take i rows) (row ∷ []))
    ∙ ap (flat_map text) (sym split)

-- bytes that stay as they were are those that were known
kept_text : (known : Option (List ℕ)) (out text : List ℕ) → Keeps known (Some out)
    → known ≡ Some text → out ≡ text
kept_text None out text kept h = cc h
kept_text (Some before) out text kept h = cc (kept, h)

-- the text of the rows so far, behind that of the version, and of one row more
head_more : (head : List ℕ) (text : Entry → List ℕ) (rows : List Entry) (i : ℕ) (row : Entry)
    → i < length rows → row ≡ get_or rows i row
    → (head ++ flat_map text (take i rows)) ++ text row ≡ head ++ flat_map text (take (i + 1) rows)
head_more head text rows i row in_range is =
    append_assoc head (flat_map text (take i rows)) (text row)
    ∙ ap (λ (s : List ℕ). head ++ s) (text_more text rows i row in_range is)

no_rows : (rows : List Entry) → take 0 rows ≡ []
no_rows [] = refl
no_rows (row ∷ rows) = refl

-- the row that tells the version is written, and no other
pub loop-row-init : goal.loop-row-init
loop-row-init c =
    let version = c.written_version-version.result in
    let rows = c.as_slice-row-items.result.now in
    let head = c.in_ok-write_version.ensures [] c.new_text-text.ensures in
    let none : version_text version ++ flat_map (text_of version) (take 0 rows)
    ≡ version_text version =
    ap (λ (es : List Entry). version_text version ++ flat_map (text_of version) es) (no_rows rows)
    ∙ append-nil (version_text version) in
    subst (λ (s : List ℕ). HasText c.write_version.new.text s) (sym none) head

pub loop-row-preserved : goal.loop-row-preserved
loop-row-preserved c =
    let rows = c.as_slice-row-items.result.now in
    let i = c.loop-row.row-index in
    let row = c.row-item.result in
    let version = c.written_version-version.result in
    let more = head_more (version_text version) (text_of version) rows i row (omega arith)
    c.row-item.is in
    subst (λ (s : List ℕ). HasText c.write_entry.new.text s) more
    (c.in_ok-write_entry.ensures (version_text version ++ flat_map (text_of version) (take i rows))
    c.loop-row.invariant)

pub returns-in-Ok-clause-read_again : goal.returns-in-Ok-clause-read_again
returns-in-Ok-clause-read_again c =
    let limits = c.args.limits.now in
    let rows = c.as_slice-row-items.result.now in
    let i = c.loop-row.row-index in
    let version = c.written_version-version.result in
    let whole = take_all i rows (omega arith) ∙ c.as_slice-row-items.ensures.value
    ∙ c.in_ok-rows.ensures in
    let text : c.in-Ok.text.items ≡ file_text limits =
    kept_text (text_written (λ v. Some v.items) c.loop-row.text) c.in-Ok.text.items
    (version_text version ++ flat_map (text_of version) (take i rows)) c.in-Ok.ensures.ok
    c.loop-row.invariant.written
    ∙ ap (λ (es : List Entry). version_text version ++ flat_map (text_of version) es) whole
    ∙ ap (λ (v : Version). version_text v ++ flat_map (text_of v) (entries_in limits))
    c.written_version-version.ensures in
    subst (λ (s : List ℕ). IsLimitFile s limits) (sym text) (printed_is_file limits
    c.stand_in_a_file.ensures)
