-- Lines of whole messages are frames up to their end.
use Rattle.std.proofs.Common.{◌≡◌, ℕ, ◌+◌, List, [], ◌∷◌, ◌++◌, length, drop, refl, sym, ap}
use Rattle.std.proofs.Common.{◌∙◌, subst, arith, append_assoc, length-append, Some}
use Rattle.std.specs.List.{AllByRecursion, flat_map, prefix_len}
use Rattle.std.proofs.Math.Seq.{drop-append_seam, drop-append-add}
use Rattle.fix_fields.specs.Fields.{FieldValue}
use Rattle.fix_fields.specs.Frames.{FrameValue, IsFrameAt, IsFrameText, is_line_end}
use Rattle.fix_fields.specs.Messages.{message_text}
use Rattle.fix_fields.specs.Found.{Splits}
use Rattle.fix_fields.specs.declared.frame.Found.TheVariants as found
use Rattle.fix_fields.proofs.RoundTrip.{message_is_read}
use Rattle.make_load.specs.Loads.{line_of}
use Rattle.make_load.proofs.Messages.{IsMessage, fields_each, body_size}

-- a frame at the start of a text stands as well behind what is passed over
frame_behind : (bytes rest : List ℕ) (from p : ℕ) (f : FrameValue) (a b : ℕ)
    → p ≡ from + prefix_len is_line_end (drop from bytes) → drop p bytes ≡ rest → f.place ≡ 0
    → IsFrameAt rest 0 f a b
    → IsFrameAt bytes from (record { place = p; end = p + f.end; fields = f.fields }) (p + a) (p + b)
frame_behind bytes rest from p f a b at dropped start h =
    let (digits, body, sum, more, parts) = h.parts in
    record {
      place = at;
      parts = (
        digits,
        body,
        sum,
        more,
        record {
          text = subst (λ t. IsFrameText t digits body sum more)
              (ap (λ n. drop n rest) start ∙ sym dropped) parts.text;
          from = omega (arith, parts.from, start);
          to = omega (arith, parts.to);
          end = omega (arith, parts.end);
          fields = parts.fields;
        },
      );
    }

-- a message of a load is read as one frame, whatever follows it
read_again : (fields : List FieldValue) (more : List ℕ) → IsMessage fields
    → (a : ℕ) × (b : ℕ) × IsFrameAt (message_text fields ++ more) 0
    (record { place = 0; end = length (message_text fields); fields = Some fields }) a b
read_again fields more m =
    let own = message_is_read (m.kind ∷ []) _ more (fields_each m.kind m.parts m.typed m.each)
    (λ none. some_kind none) (omega (arith, body_size m.kind m.parts m.each, m.few)) in
    rw m.is own where
      some_kind : m.kind ∷ [] ≡ [] → ⊥
      some_kind none = cc

-- what is passed over before a line
pub record IsGap (gap : List ℕ) : Type 0 where
  pub passed : (rest : List ℕ)
      → prefix_len is_line_end (gap ++ rest) ≡ length gap + prefix_len is_line_end rest

pub no_gap : IsGap []
no_gap = record { passed = λ rest. omega arith }

pub line_end : IsGap (10 ∷ [])
line_end = record { passed = λ rest. refl }

-- no message begins with the end of a line
starts : (fields : List FieldValue) (more : List ℕ)
    → prefix_len is_line_end (message_text fields ++ more) ≡ 0
starts fields more = refl

-- lines of messages behind other bytes are frames up to their end
pub lines_split : (messages : List (List FieldValue)) (before gap : List ℕ)
    → AllByRecursion IsMessage messages → IsGap gap
    → (frames : List FrameValue)
    × Splits (before ++ (gap ++ flat_map line_of messages)) (length before) frames found.End
lines_split [] before gap each g =
    let rest : drop (length before) (before ++ (gap ++ [])) ≡ gap ++ [] =
    drop-append_seam before (gap ++ []) in (
      [],
      omega (
        arith,
        length-append before (gap ++ []),
        length-append gap [],
        ap (prefix_len is_line_end) rest,
        g.passed [],
      ),
    )
lines_split (fields ∷ messages) before gap each g =
    let text = message_text fields in
    let more = flat_map line_of messages in
    let behind = (10 ∷ []) ++ more in
    let bytes = before ++ (gap ++ (line_of fields ++ more)) in
    let p = length before + length gap in
    let own : line_of fields ++ more ≡ text ++ behind = append_assoc text (10 ∷ []) more in
    let seam : drop (length before) bytes ≡ gap ++ (text ++ behind) =
    drop-append_seam before (gap ++ (line_of fields ++ more)) ∙ ap (λ t. gap ++ t) own in
    let at : p ≡ length before + prefix_len is_line_end (drop (length before) bytes) =
    omega (arith, ap (prefix_len is_line_end) seam, g.passed (text ++ behind), starts fields behind) in
    let dropped : drop p bytes ≡ text ++ behind =
    drop-append-add before (gap ++ (line_of fields ++ more)) (length gap)
    ∙ drop-append_seam gap (line_of fields ++ more) ∙ own in
    let (a, b, read) = read_again fields behind each.0 in
    let frame : FrameValue =
    record { place = p; end = p + length text; fields = Some fields } in
    let there : IsFrameAt bytes (length before) frame (p + a) (p + b) =
    frame_behind bytes (text ++ behind) (length before) p
    (record { place = 0; end = length text; fields = Some fields }) a b at dropped refl read in
    let (frames, later) = lines_split messages (before ++ (gap ++ text)) (10 ∷ []) each.1 line_end in
    let same : (before ++ (gap ++ text)) ++ behind ≡ bytes =
    append_assoc before (gap ++ text) behind
    ∙ ap (λ t. before ++ t) (append_assoc gap text behind ∙ ap (λ t. gap ++ t) (sym own)) in
    let far : length (before ++ (gap ++ text)) ≡ p + length text =
    omega (arith, length-append before (gap ++ text), length-append gap text) in (
      frame ∷ frames,
      (
        p + a,
        p + b,
        there,
        subst (λ n. Splits bytes n frames found.End) far
            (subst (λ t. Splits t (length (before ++ (gap ++ text))) frames found.End) same later),
      ),
    )
