-- What streams got of their messages, one after another.
use Rattle.std.proofs.Common.{◌≡◌, ℕ, List, [], ◌∷◌, ◌++◌, take, drop, refl, sym, ap, ◌∙◌, subst}
use Rattle.std.specs.Prelude.{Option, Some, None}
use Rattle.std.specs.List.{concat}
use Rattle.std.specs.Io.KnownBytes.{Appends}
use Rattle.std.proofs.lemmas.List.{append_assoc, append-nil, take-append-drop, append_cancel_left}
use Rattle.std.proofs.lemmas.List.Folds.{concat-append}
use Rattle.cross_guard.specs.Giving.{GivesFront, IsBetween, with_message, text_in}

pub appends_nothing : (held held_after : Option (List ℕ)) → held_after ≡ held
    → Appends held held_after []
appends_nothing None held_after e = tt
appends_nothing (Some bytes) held_after e =
    let P : Option (List ℕ) → Type 0 = λ h. Appends (Some bytes) h [] in subst P (sym e)
    (sym (append-nil bytes))

pub appends_next : (held middle after : Option (List ℕ)) (one two both : List ℕ)
    → Appends held middle one → Appends middle after two → both ≡ one ++ two
    → Appends held after both
appends_next None middle after one two both first second e = tt
appends_next (Some xs) None after one two both first second e = absurd first
appends_next (Some xs) (Some ys) None one two both first second e = absurd second
appends_next (Some xs) (Some ys) (Some zs) one two both first second e =
    second ∙ ap (λ l. l ++ two) first ∙ append_assoc xs one two ∙ ap (λ l. xs ++ l) (sym e)

pub concat-with : (message : Option (List ℕ)) (messages : List (List ℕ))
    → concat (with_message message messages) ≡ concat messages ++ text_in message
concat-with None messages = sym (append-nil (concat messages))
concat-with (Some text) messages = concat-append messages (text ∷ [])
    ∙ ap (λ m. concat messages ++ m) (append-nil text)

pub appends_none : (held : Option (List ℕ)) → Appends held held []
appends_none None = tt
appends_none (Some bytes) = sym (append-nil bytes)

-- a front of a piece is a front of whatever the piece is
front_text : (held whole held_after : Option (List ℕ)) (piece text : List ℕ) (count : ℕ)
    → Appends held whole piece → Appends held whole text
    → Appends held held_after (take count piece) → Appends held held_after (take count text)
front_text None whole held_after piece text count would says got = tt
front_text (Some xs) None held_after piece text count would says got = absurd would
front_text (Some xs) (Some ys) None piece text count would says got = absurd got
front_text (Some xs) (Some ys) (Some zs) piece text count would says got =
    let same : piece ≡ text = append_cancel_left xs piece text (sym would ∙ says) in
    got ∙ ap (λ l. xs ++ take count l) same

-- What a stream got of its messages.
pub record Got (held held_after : Option (List ℕ)) (before after : List (List ℕ)) : Type 0 where
  pub text : List ℕ
  pub got : Appends held held_after text
  pub between : IsBetween before after text

-- all of them but a part of the last
pub got_front : (given : Type 0) (start held held_after whole : Option (List ℕ))
    (before after : List (List ℕ)) (message : Option (List ℕ))
    → after ≡ with_message message before → Appends start held (concat before)
    → Appends held whole (text_in message) → GivesFront given held held_after whole
    → Got start held_after before after
got_front given start held held_after whole before after message is has says front =
    let text = text_in message in
    let count = front.count in
    let got = front_text held whole held_after front.piece text count front.would says front.got in
    record {
      text = concat before ++ take count text;
      got = appends_next start held held_after (concat before) (take count text)
          (concat before ++ take count text) has got refl;
      between = record {
        more = take count text;
        rest = drop count text;
        begins = refl;
        within = ap concat is ∙ concat-with message before
            ∙ ap (λ l. concat before ++ l) (sym (take-append-drop count text))
            ∙ sym (append_assoc (concat before) (take count text) (drop count text));
      };
    }

-- all of them
abbrev pub got_whole : (start held_after whole : Option (List ℕ)) (before after : List (List ℕ))
    (message : Option (List ℕ)) → after ≡ with_message message before
    → Appends start whole (concat after) → held_after ≡ whole → Got start held_after before after
got_whole start held_after whole before after message is has same = record {
  text = concat after;
  got = subst (λ h. Appends start h (concat after)) (sym same) has;
  between = record {
    more = text_in message;
    rest = [];
    begins = ap concat is ∙ concat-with message before;
    within = sym (append-nil (concat after));
  };
}
