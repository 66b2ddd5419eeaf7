-- The head and the trailer round a body make its message.
use Rattle.std.proofs.Common.{◌≡◌, ℕ, ◌+◌, ◌-◌, ◌≤◌, List, ◌++◌, length, take, drop, decimal}
use Rattle.std.proofs.Common.{sym, ap, ◌∙◌, subst, arith, Bool, true, false, Option, Some, None}
use Rattle.std.proofs.Common.{cond, length-take, length-drop}
use Rattle.std.specs.Prelude.{IfSome, slice_range}
use Rattle.fix_fields.specs.Fields.{checksum_of}
use Rattle.fix_fields.specs.Frames.{head_text, trailer_text}
use Rattle.fix_fields.specs.Messages.{frame_text, three_digits}
use Rattle.fix_fields.proofs.Writing.{seen_body, front_written, message_written}

-- the trailer of what stands from a place on
abbrev sum_text : List ℕ → List ℕ
sum_text front = trailer_text (three_digits (checksum_of front))

-- the parts of a message that is finished in place
pub record IsFinished (start end later : ℕ) (bytes headed now : List ℕ) : Type 0 where
  pub before : start + length (head_text (decimal (end - 17))) ≡ 17
  pub head : drop start headed ≡ head_text (decimal (end - 17)) ++ drop 17 bytes
  pub low : 17 ≤ end
  pub high : end ≤ length bytes
  pub kept : end ≤ length headed
  pub after : end ≤ later
  pub trailer : take later now
      ≡ take end headed ++ trailer_text (three_digits (checksum_of (slice_range headed start end)))

whole-message : (start end later : ℕ) (bytes headed now : List ℕ)
    → IsFinished start end later bytes headed now
    → slice_range now start later ≡ frame_text (drop 17 (take end bytes))
whole-message start end later bytes headed now f =
    let body = drop 17 (take end bytes) in
    let head = head_text (decimal (end - 17)) in
    let count : length body ≡ end - 17 =
    omega (arith, length-drop 17 (take end bytes), length-take end bytes) in
    let front : slice_range headed start end ≡ head ++ body =
    front_written start end bytes headed head f.before f.head f.low in
    message_written start end later bytes headed now head (sum_text (slice_range headed start end))
    f.before f.head f.low f.kept f.after f.trailer
    ∙ ap (λ s. (head ++ body) ++ sum_text s) front
    ∙ ap (λ n. let own = head_text (decimal n) ++ body in own ++ sum_text own) (sym count)

for_seen : (begun : Bool) (body result : List ℕ) → result ≡ frame_text body
    → IfSome (cond begun (Some body) None) (λ own. result ≡ frame_text own)
for_seen true body result h = h
for_seen false body result h = tt

-- what is handed out is the message of the body that contracts see
pub finished : (begun : Bool) (start end later : ℕ) (bytes headed now result : List ℕ)
    (seen : Option (List ℕ)) → seen_body begun end bytes ≡ seen
    → IsFinished start end later bytes headed now → result ≡ slice_range now start later
    → IfSome seen (λ body. result ≡ frame_text body)
finished begun start end later bytes headed now result seen is_seen f is_part =
    let Given : Option (List ℕ) → Type 0 = λ own. IfSome own (λ body. result ≡ frame_text body) in
    subst Given is_seen
    (for_seen begun (drop 17 (take end bytes)) result
    (is_part ∙ whole-message start end later bytes headed now f))
