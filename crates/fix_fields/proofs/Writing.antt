-- What a write does to the body of a message, which begins at byte 17.
use Rattle.std.proofs.Common.{◌≡◌, ℕ, ◌+◌, ◌-◌, ◌≤◌, List, ◌++◌, length, take, drop, cond}
use Rattle.std.proofs.Common.{sym, ap, ◌∙◌, subst, arith, Bool, true, false}
use Rattle.std.proofs.Common.{Option, Some, None, length-take, length-drop}
use Rattle.std.specs.Prelude.{IfSome, IsSome}
use Rattle.std.proofs.lemmas.List.{drop-append-le}
use Rattle.std.proofs.lemmas.Bool.{false≢true}
use Rattle.std.proofs.lemmas.Slice.{between_is}
use Rattle.std.proofs.Math.Seq.{take-append-add}
use Rattle.std.proofs.Math.ListN.{drop_of_length-le}

-- what contracts see of a writer
abbrev pub seen_body : Bool → ℕ → List ℕ → Option (List ℕ)
seen_body begun end bytes = cond begun (Some (drop 17 (take end bytes))) None

-- a text for which the body has room ends before the place where the longest body ends
fits_begun : (begun : Bool) (end most : ℕ) (bytes text : List ℕ)
    → IsSome (seen_body begun end bytes)
    → IfSome (seen_body begun end bytes) (λ body. length body + length text ≤ most)
    → 17 ≤ end → end ≤ length bytes → end + length text ≤ 17 + most
fits_begun true end most bytes text begun room low high =
    omega (arith, room, length-drop 17 (take end bytes), length-take end bytes)
fits_begun false end most bytes text begun room low high = absurd (false≢true begun)

pub text_fits : (begun : Bool) (end most : ℕ) (bytes text : List ℕ) (seen : Option (List ℕ))
    → seen_body begun end bytes ≡ seen → IsSome seen
    → IfSome seen (λ body. length body + length text ≤ most)
    → 17 ≤ end → end ≤ length bytes → end + length text ≤ 17 + most
text_fits begun end most bytes text seen is_seen some room low high =
    let Begun : Option (List ℕ) → Type 0 = λ own. IsSome own in
    let Room : Option (List ℕ) → Type 0 =
    λ own. IfSome own (λ body. length body + length text ≤ most) in
    fits_begun begun end most bytes text (subst Begun (sym is_seen) some)
    (subst Room (sym is_seen) room) low high

-- a text behind the bytes is a text behind the body
body-appended : (end later : ℕ) (bytes now text : List ℕ)
    → take later now ≡ take end bytes ++ text → 17 ≤ end → end ≤ length bytes
    → drop 17 (take later now) ≡ drop 17 (take end bytes) ++ text
body-appended end later bytes now text written low high =
    ap (drop 17) written
    ∙ drop-append-le 17 (take end bytes) text (omega (arith, length-take end bytes))

appended_begun : (begun : Bool) (end later : ℕ) (bytes now text : List ℕ)
    → take later now ≡ take end bytes ++ text → 17 ≤ end → end ≤ length bytes
    → IfSome (seen_body begun end bytes) (λ body. seen_body begun later now ≡ Some (body ++ text))
appended_begun true end later bytes now text written low high =
    ap Some (body-appended end later bytes now text written low high)
appended_begun false end later bytes now text written low high = tt

-- what contracts see after a text was written
pub text_appended : (begun : Bool) (end later : ℕ) (bytes now text : List ℕ)
    (seen : Option (List ℕ)) → seen_body begun end bytes ≡ seen
    → take later now ≡ take end bytes ++ text → 17 ≤ end → end ≤ length bytes
    → IfSome seen (λ body. seen_body begun later now ≡ Some (body ++ text))
text_appended begun end later bytes now text seen is_seen written low high =
    let Appended : Option (List ℕ) → Type 0 =
    λ own. IfSome own (λ body. seen_body begun later now ≡ Some (body ++ text)) in
    subst Appended is_seen (appended_begun begun end later bytes now text written low high)

-- a text at the place of the body is the body
pub body-begun : (later : ℕ) (bytes now text : List ℕ) → take later now ≡ take 17 bytes ++ text
    → 17 ≤ length bytes → seen_body true later now ≡ Some text
body-begun later bytes now text written high =
    let none : length (take 17 bytes) ≤ 17 = omega (arith, length-take 17 bytes) in
    ap Some (body-appended 17 later bytes now text written (omega arith) high
    ∙ ap (λ s. s ++ text) (drop_of_length-le (take 17 bytes) none))

-- a cut of both ends, in either order
drop-take : (from to : ℕ) (xs : List ℕ) → drop from (take to xs) ≡ take (to - from) (drop from xs)
drop-take from to xs = sym (between_is xs from to)

-- the head and the body, from the place of the head on
pub front_written : (start end : ℕ) (bytes headed head : List ℕ) → start + length head ≡ 17
    → drop start headed ≡ head ++ drop 17 bytes → 17 ≤ end
    → take (end - start) (drop start headed) ≡ head ++ drop 17 (take end bytes)
front_written start end bytes headed head before is_head low =
    let count : end - start ≡ length head + (end - 17) = omega arith in
    rw (is_head, count) (take-append-add head (drop 17 bytes) (end - 17)
    ∙ ap (λ s. head ++ s) (sym (drop-take 17 end bytes)))

-- the head before the body, the body, and what stands behind both
pub message_written : (start end later : ℕ) (bytes headed now head trailer : List ℕ)
    → start + length head ≡ 17 → drop start headed ≡ head ++ drop 17 bytes
    → 17 ≤ end → end ≤ length headed → end ≤ later
    → take later now ≡ take end headed ++ trailer
    → take (later - start) (drop start now) ≡ (head ++ drop 17 (take end bytes)) ++ trailer
message_written start end later bytes headed now head trailer before is_head low high after is_now =
    sym (drop-take start later now)
    ∙ ap (drop start) is_now
    ∙ drop-append-le start (take end headed) trailer (omega (arith, length-take end headed))
    ∙ ap (λ s. s ++ trailer) (drop-take start end headed
    ∙ front_written start end bytes headed head before is_head low)
