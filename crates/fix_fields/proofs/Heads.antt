-- A rest begins with at most one head, or ends within one.
use Rattle.std.proofs.Common.{◌≡◌, ℕ, ◌<◌, ◌⊎◌, inl, inr, List, [], ◌∷◌, ◌++◌, length}
use Rattle.std.proofs.Common.{refl, ap, sym, ◌∙◌, arith, append_assoc, append-nil, length-append}
use Rattle.std.proofs.Common.{codes, true, ◌≢◌, Option, Some, None, MatchOption, IfSome}
use Rattle.std.proofs.Common.{IfNone, Bor}
use Rattle.std.specs.List.{list_all}
use Rattle.std.specs.Char.{is_ascii_digit}
use Rattle.fix_fields.specs.Fields.{soh}
use Rattle.fix_fields.specs.Frames.{begin_text, head_text, trailer_text, AreDigits}
use Rattle.fix_fields.specs.Rests.{BeginsHead, EndsInHead}
use Rattle.fix_fields.specs.Parts.{CutsDigits, IsNoLength, IsNoHead}
use Rattle.fix_fields.specs.declared.cut.NoFrame.{NoFrame}
use Rattle.fix_fields.specs.declared.cut.NoFrame.TheVariants.{Cut, TooLong, Broken}
use Rattle.fix_fields.proofs.OneFrame.{digits_then_soh, same_length}
use Rattle.std.proofs.lemmas.Bool.{and_parts}

regroup_head : (a d m : List ℕ) (c : ℕ) → (a ++ d ++ c ∷ []) ++ m ≡ a ++ (d ++ c ∷ m)
regroup_head a d m c = simp append_assoc

-- a head with a text behind it, regrouped
pub head_then : (d m : List ℕ) → head_text d ++ m ≡ begin_text ++ (d ++ soh ∷ m)
head_then d m = regroup_head begin_text d m soh

regroup_tail : (h b t s m : List ℕ) (c : ℕ)
    → h ++ b ++ (t ++ s ++ c ∷ []) ++ m ≡ h ++ (b ++ (t ++ (s ++ c ∷ m)))
regroup_tail h b t s m c = simp append_assoc

-- a frame, regrouped behind its head
pub behind_head : (d b s m : List ℕ)
    → head_text d ++ b ++ trailer_text s ++ m ≡ head_text d ++ (b ++ (codes "10=" ++ (s ++ soh ∷ m)))
behind_head d b s m = regroup_tail (head_text d) b (codes "10=") s m soh

pub record IsSameHead (d x e y : List ℕ) : Type 0 where
  pub digits : d ≡ e
  pub more : x ≡ y

-- a rest begins with at most one head
pub one_head : (rest d x e y : List ℕ) → BeginsHead rest d x → BeginsHead rest e y
    → IsSameHead d x e y
one_head rest d x e y h k =
    let same = sym (h.spelled ∙ head_then d x) ∙ k.spelled ∙ head_then e y in
    let after = (same_length begin_text begin_text (d ++ soh ∷ x) (e ++ soh ∷ y) refl same).1 in
    let cut = digits_then_soh d e x y h.length_spelled.each k.length_spelled.each after in
    record { digits = cut.0; more = cut.1 }

-- a rest that begins with a head doesn't end within one
pub not_in_head : (rest d x e missing : List ℕ) → BeginsHead rest d x → EndsInHead rest e missing
    → ⊥
not_in_head rest d x e missing h k =
    let longer : BeginsHead (rest ++ missing) d (x ++ missing) = record {
      spelled = ap (λ t. t ++ missing) h.spelled ∙ append_assoc (head_text d) x missing;
      length_spelled = h.length_spelled;
    } in
    let whole : BeginsHead (rest ++ missing) e [] = record {
      spelled = k.spelled ∙ sym (append-nil (head_text e));
      length_spelled = k.length_spelled;
    } in
    let same = one_head (rest ++ missing) d (x ++ missing) e [] longer whole in
    omega (arith, ap length same.more, length-append x missing, k.some)

-- one front of a text ends within the other: the first within the second, or the second short of
-- the end of the first
pub record GoesOn (a b c d k : List ℕ) : Type 0 where
  pub front : c ≡ a ++ k
  pub behind : b ≡ k ++ d

pub record IsShort (a b c d k : List ℕ) : Type 0 where
  pub front : c ++ k ≡ a
  pub some : 0 < length k
  pub behind : d ≡ k ++ b

pub two_fronts : (a b c d : List ℕ) → a ++ b ≡ c ++ d
    → ((k : List ℕ) × GoesOn a b c d k) ⊎ ((k : List ℕ) × IsShort a b c d k)
two_fronts [] b c d same = inl (c, record { front = refl; behind = same })
two_fronts (x ∷ a) b [] d same =
    inr (x ∷ a, record { front = refl; some = omega arith; behind = sym same })
two_fronts (x ∷ a) b (y ∷ c) d same =
    let first : x ≡ y = cc in
    elim (two_fronts a b c d cc) as (λ _.
    ((k : List ℕ) × GoesOn (x ∷ a) b (y ∷ c) d k) ⊎ ((k : List ℕ) × IsShort (x ∷ a) b (y ∷ c) d k)) [
      | inl w ↦ inl (w.0, record { front = let f = w.1.front in cc; behind = w.1.behind })
      | inr w ↦ inr (
        w.0,
        record {
          front = let f = w.1.front in cc;
          some = w.1.some;
          behind = w.1.behind;
        },
      )
    ]

-- where a longer text begins with a head, its front does so, or ends within the head
pub head_before : (rest x d more : List ℕ) → BeginsHead (rest ++ x) d more
    → ((k : List ℕ) × BeginsHead rest d k × (more ≡ k ++ x)) ⊎ ((k : List ℕ) × EndsInHead rest d k)
head_before rest x d more h =
    elim (two_fronts (head_text d) more rest x (sym h.spelled)) as (λ _.
    ((k : List ℕ) × BeginsHead rest d k × (more ≡ k ++ x))
    ⊎ ((k : List ℕ) × EndsInHead rest d k)) [
      | inl w ↦ inl (
        w.0,
        record { spelled = w.1.front; length_spelled = h.length_spelled },
        w.1.behind,
      )
      | inr w ↦ inr (
        w.0,
        record { spelled = w.1.front; length_spelled = h.length_spelled; some = w.1.some },
      )
    ]

-- what begins with the head's constant bytes, digits and SOH begins with a head
pub head_there : (rest after d more : List ℕ) → rest ≡ begin_text ++ after
    → CutsDigits after 1 7 d more → BeginsHead rest d more
head_there rest after d more begun cut = record {
  spelled = begun ∙ ap (λ t. begin_text ++ t) cut.spelled ∙ sym (head_then d more);
  length_spelled = cut.are_digits;
}

-- and the other way round
pub head_begins : (rest d more : List ℕ) → BeginsHead rest d more
    → rest ≡ begin_text ++ (d ++ soh ∷ more)
head_begins rest d more h = h.spelled ∙ head_then d more

pub head_cut : (rest after d more : List ℕ) → rest ≡ begin_text ++ after → BeginsHead rest d more
    → CutsDigits after 1 7 d more
head_cut rest after d more begun h = record {
  spelled = (same_length begin_text begin_text after (d ++ soh ∷ more) refl (sym begun
      ∙ head_begins rest d more h)).1;
  are_digits = h.length_spelled;
}

-- the shortest digits of a BodyLength: a zero
zero_digit : AreDigits 1 7 (48 ∷ [])
zero_digit = record { each = refl; no_fewer = omega arith; no_more = omega arith }

regroup_missing : (a r k d : List ℕ) (c : ℕ) → r ++ k ≡ a
    → r ++ (k ++ (d ++ c ∷ [])) ≡ a ++ d ++ c ∷ []
regroup_missing a r k d c e = rw (← e) (simp append_assoc)

-- a rest that is the head's constant bytes, or ends within them, ends within a head
pub in_begin : (rest missing : List ℕ) → begin_text ≡ rest ++ missing
    → EndsInHead rest (48 ∷ []) (missing ++ (48 ∷ soh ∷ []))
in_begin rest missing e = record {
  spelled = regroup_missing begin_text rest missing (48 ∷ []) soh (sym e);
  length_spelled = zero_digit;
  some = omega (arith, length-append missing (48 ∷ soh ∷ []));
}

regroup_after : (a t d : List ℕ) (c : ℕ) → (a ++ t) ++ (d ++ c ∷ []) ≡ a ++ (t ++ d) ++ c ∷ []
regroup_after a t d c = simp append_assoc

-- a rest that ends behind digits of BodyLength ends within a head
pub in_length : (rest after : List ℕ) → rest ≡ begin_text ++ after → AreDigits 0 7 after
    → (d : List ℕ) × (missing : List ℕ) × EndsInHead rest d missing
in_length rest [] begun are = (
  48 ∷ [],
  [] ++ (48 ∷ soh ∷ []),
  in_begin rest [] (sym (append-nil rest ∙ begun)),
)
in_length rest (x ∷ after) begun are = (
  x ∷ after,
  soh ∷ [],
  record {
    spelled = ap (λ t. t ++ soh ∷ []) begun;
    length_spelled = record {
      each = are.each;
      no_fewer = omega arith;
      no_more = are.no_more;
    };
    some = omega arith;
  },
)

front_passes : (a k : List ℕ) → list_all is_ascii_digit (a ++ k) ≡ true
    → list_all is_ascii_digit a ≡ true
front_passes [] k h = refl
front_passes (x ∷ a) k h =
    let both = and_parts (is_ascii_digit x) (list_all is_ascii_digit (a ++ k)) h in
    rw both.0 (front_passes a k both.1)

-- and the other way round
pub digits_left : (rest after d missing : List ℕ) → rest ≡ begin_text ++ after
    → EndsInHead rest d missing → AreDigits 0 7 after
digits_left rest after d missing begun h =
    let flat : begin_text ++ (after ++ missing) ≡ begin_text ++ (d ++ soh ∷ []) =
    sym (ap (λ t. t ++ missing) begun ∙ append_assoc begin_text after missing) ∙ h.spelled
    ∙ append_assoc begin_text d (soh ∷ []) in
    let same = (same_length begin_text begin_text (after ++ missing) (d ++ soh ∷ []) refl flat).1 in
    elim (two_fronts after missing d (soh ∷ []) same) as (λ _. AreDigits 0 7 after) [
      | inl w ↦ record {
        each = front_passes after w.0 (ap (list_all is_ascii_digit) (sym w.1.front)
            ∙ h.length_spelled.each);
        no_fewer = omega arith;
        no_more = omega (
          arith,
          ap length w.1.front,
          length-append after w.0,
          h.length_spelled.no_more,
        );
      }
      | inr w ↦ absurd (omega (
        arith,
        ap length w.1.behind,
        length-append w.0 missing,
        w.1.some,
        h.some,
      ))
    ]

-- a rest that differs from the head's constant bytes
pub no_head : (rest : List ℕ) → ((after : List ℕ) → rest ≡ begin_text ++ after → ⊥)
    → ((missing : List ℕ) → begin_text ≡ rest ++ missing → ⊥) → IsNoHead rest Broken
no_head rest no_after no_missing = (
  λ d more h. no_after (d ++ soh ∷ more) (head_begins rest d more h),
  λ d missing h. elim (two_fronts begin_text (d ++ soh ∷ []) rest missing
      (sym (h.spelled ∙ append_assoc begin_text d (soh ∷ [])))) as (λ _. ⊥) [
        | inl w ↦ no_after w.0 w.1.front
        | inr w ↦ no_missing w.0 (sym w.1.front)
      ],
)

-- why no head stands there, by what stands behind its constant bytes
pub no_head_by_length : (rest after : List ℕ) → rest ≡ begin_text ++ after → (why : NoFrame)
    → IsNoLength after why → IsNoHead rest why
no_head_by_length rest after begun Cut h = in_length rest after begun h
no_head_by_length rest after begun TooLong h = h
no_head_by_length rest after begun Broken h = (
  λ d more k. h.0 d more (head_cut rest after d more begun k),
  λ d missing k. h.1 (digits_left rest after d missing begun k),
)

-- what is missing to the head's constant bytes, or that the rest doesn't end within them
pub missing_if : (rest : List ℕ) (r : Option (Bor (List ℕ)))
    → MatchOption r ((missing : List ℕ) → begin_text ≢ rest ++ missing)
    (λ missing. begin_text ≡ rest ++ missing.now)
    → IfSome r (λ missing. begin_text ≡ rest ++ missing.now)
missing_if rest None h = tt
missing_if rest (Some x) h = h

pub not_missing_if : (rest : List ℕ) (r : Option (Bor (List ℕ)))
    → MatchOption r ((missing : List ℕ) → begin_text ≢ rest ++ missing)
    (λ missing. begin_text ≡ rest ++ missing.now)
    → IfNone r ((missing : List ℕ) → begin_text ≡ rest ++ missing → ⊥)
not_missing_if rest None h = h
not_missing_if rest (Some x) h = tt
