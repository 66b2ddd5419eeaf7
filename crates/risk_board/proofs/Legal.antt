-- A plain array stays legal at each post and each read.
use Rattle.std.proofs.Common.{◌≡◌, ℕ, ◌+◌, ◌≤◌, ◌==◌, List, [], ◌∷◌, ◌++◌, length, take}
use Rattle.std.proofs.Common.{refl, ap, sym, ◌∙◌, arith, false, cond, suc}
use Rattle.std.proofs.Common.{eq-eqb}
use Rattle.std.proofs.lemmas.List.{append-nil as append_nil, take_all}
use Rattle.std.proofs.lemmas.List.Elements.{filter-append}
use Rattle.risk_board.specs.declared.hand.Line.{Line}
use Rattle.risk_board.specs.History.{Event, posted, own_lines, lines_of, StampsRise, PlaceFollows}
use Rattle.risk_board.specs.History.{PlacesFollow, IsOwnLegal, IsLegal, array_after}
use Rattle.risk_board.specs.History.Event.{Posted, Saw}
use Rattle.risk_board.specs.Kept.{ArePlaces, IsPlain}
use Rattle.risk_board.proofs.Posts.{line, posted-post, posted-read, own_lines-post}
use Rattle.risk_board.proofs.Posts.{reads_fit_after_line, reads_fit_with_post, reads_fit_with_read}

place_follows : (most stamp place : ℕ) (events : List Event) → stamp ≡ place
    → ArePlaces most events → PlaceFollows stamp place events
place_follows most stamp place [] same are = tt
place_follows most stamp place (Posted value ∷ events) same are =
    place_follows most stamp place events same are
place_follows most stamp place (Saw other at value ∷ events) same are = (
  ((λ le. omega (arith, are.0)), (λ le. omega (arith, are.0))),
  place_follows most stamp place events same are.2,
)

-- where each stamp is its place, places follow stamps
pub places_follow : (most : ℕ) (own others : List Event) → ArePlaces most own
    → ArePlaces most others → PlacesFollow own others
places_follow most [] others are also = tt
places_follow most (Posted value ∷ own) others are also = places_follow most own others are also
places_follow most (Saw stamp place value ∷ own) others are also = (
  place_follows most stamp place others are.0 also,
  places_follow most own others are.2 also,
)

pub are_places_of_more : (most more : ℕ) (own : List Event) → most ≤ more → ArePlaces most own
    → ArePlaces more own
are_places_of_more most more [] le are = tt
are_places_of_more most more (Posted value ∷ own) le are = are_places_of_more most more own le are
are_places_of_more most more (Saw stamp place value ∷ own) le are =
    (are.0, omega (arith, are.1), are_places_of_more most more own le are.2)

pub are_places_with_post : (most : ℕ) (own : List Event) (value : ℕ) → ArePlaces most own
    → ArePlaces most (own ++ Posted value ∷ [])
are_places_with_post most [] value are = tt
are_places_with_post most (Posted x ∷ own) value are = are_places_with_post most own value are
are_places_with_post most (Saw stamp place x ∷ own) value are =
    (are.0, are.1, are_places_with_post most own value are.2)

pub are_places_with_read : (most : ℕ) (own : List Event) (value : ℕ) → ArePlaces most own
    → ArePlaces most (own ++ Saw most most value ∷ [])
are_places_with_read most [] value are = (refl, omega arith, tt)
are_places_with_read most (Posted x ∷ own) value are = are_places_with_read most own value are
are_places_with_read most (Saw stamp place x ∷ own) value are =
    (are.0, are.1, are_places_with_read most own value are.2)

pub stamps_rise_with_post : (least : ℕ) (own : List Event) (value : ℕ) → StampsRise least own
    → StampsRise least (own ++ Posted value ∷ [])
stamps_rise_with_post least [] value rise = tt
stamps_rise_with_post least (Posted x ∷ own) value rise =
    stamps_rise_with_post least own value rise
stamps_rise_with_post least (Saw stamp place x ∷ own) value rise =
    (rise.0, stamps_rise_with_post stamp own value rise.1)

pub stamps_rise_with_read : (least most : ℕ) (own : List Event) (place value : ℕ) → least ≤ most
    → ArePlaces most own → StampsRise least own
    → StampsRise least (own ++ Saw most place value ∷ [])
stamps_rise_with_read least most [] place value le are rise = (le, tt)
stamps_rise_with_read least most (Posted x ∷ own) place value le are rise =
    stamps_rise_with_read least most own place value le are rise
stamps_rise_with_read least most (Saw stamp at x ∷ own) place value le are rise =
    (rise.0, stamps_rise_with_read stamp most own place value are.1 are.2 rise.1)

-- the lines of a session after one of its own, and after another's
lines_of-own : (session index value : ℕ) (lines : List Line)
    → lines_of session (lines ++ line session index value ∷ [])
    ≡ lines_of session lines ++ line session index value ∷ []
lines_of-own session index value lines =
    let own = line session index value in
    filter-append (λ l. l.session == session) lines _
    ∙ ap (λ b. lines_of session lines ++ cond b (own ∷ []) []) (eq-eqb session session refl)

lines_of-other : (session : ℕ) (last : Line) (lines : List Line)
    → (last.session == session) ≡ false
    → lines_of session (lines ++ last ∷ []) ≡ lines_of session lines
lines_of-other session last lines other =
    filter-append (λ l. l.session == session) lines _
    ∙ ap (λ b. lines_of session lines ++ cond b (last ∷ []) []) other
    ∙ append_nil _

-- a session stays legal at a post of its own
pub own_post : (whole : List ℕ → ℕ) (unit components : ℕ) (lines : List Line) (session : ℕ)
    (own : List Event) (value : ℕ) → IsOwnLegal whole unit components lines session own
    → IsOwnLegal whole unit components
    (lines ++ line session (1 + length (posted own)) value ∷ []) session
    (own ++ Posted value ∷ [])
own_post whole unit components lines session own value legal =
    let index : ℕ = 1 + length (posted own) in
    let last : Line = line session index value in
    let more : List Line = lines ++ last ∷ [] in
    record {
      each_once = lines_of-own session index value lines
          ∙ ap (λ s. s ++ last ∷ []) legal.each_once
          ∙ sym (ap (own_lines session 1) (posted-post own value)
          ∙ own_lines-post session 1 (posted own) value);
      reads = reads_fit_with_post whole unit components more session 0 own value
          (reads_fit_after_line whole unit components lines last session 0 own legal.reads);
      stamps = stamps_rise_with_post 0 own value legal.stamps;
    }

-- and at another's
pub other_post : (whole : List ℕ → ℕ) (unit components : ℕ) (lines : List Line) (session : ℕ)
    (own : List Event) (last : Line) → (last.session == session) ≡ false
    → IsOwnLegal whole unit components lines session own
    → IsOwnLegal whole unit components (lines ++ last ∷ []) session own
other_post whole unit components lines session own last other legal = record {
  each_once = lines_of-other session last lines other ∙ legal.each_once;
  reads = reads_fit_after_line whole unit components lines last session 0 own legal.reads;
  stamps = legal.stamps;
}

pub length-own_lines : (session index : ℕ) (values : List ℕ)
    → length (own_lines session index values) ≡ length values
length-own_lines session index [] = refl
length-own_lines session index (x ∷ values) =
    ap (λ n. suc n) (length-own_lines session (index + 1) values)

-- a session stays legal at a read of all lines
pub own_read : (whole : List ℕ → ℕ) (unit components : ℕ) (lines : List Line) (session : ℕ)
    (own : List Event) → ArePlaces (length lines) own
    → IsOwnLegal whole unit components lines session own
    → let value = whole (array_after unit components lines) in
    IsOwnLegal whole unit components lines session
    (own ++ Saw (length lines) (length lines) value ∷ [])
own_read whole unit components lines session own are legal =
    let all : take (length lines) lines ≡ lines = take_all (length lines) lines (omega arith) in
    let count : length (lines_of session lines) ≡ length (posted own) =
    ap length legal.each_once ∙ length-own_lines session 1 (posted own) in
    record {
      each_once = legal.each_once ∙ sym (ap (own_lines session 1) (posted-read own _ _ _));
      reads = reads_fit_with_read whole unit components lines session 0 own
          (length lines) (length lines) _ legal.reads (omega arith)
          (ap (λ s. whole (array_after unit components s)) (sym all))
          (ap (λ s. length (lines_of session s)) all ∙ count ∙ omega arith);
      stamps = stamps_rise_with_read 0 (length lines) own (length lines) _
          (omega arith) are legal.stamps;
    }

-- so it is legal
pub plain_is_legal : (whole : List ℕ → ℕ) (unit components : ℕ) (lines : List Line)
    (events : List (List Event)) → IsPlain whole unit components lines events
    → IsLegal whole unit components lines events
plain_is_legal whole unit components lines events plain = record {
  few = plain.few;
  sessions = plain.sessions;
  each = λ session own at. (plain.each session own at).0;
  places = λ one own other others at also.
      places_follow (length lines) own others (plain.each one own at).1
      (plain.each other others also).1;
}
