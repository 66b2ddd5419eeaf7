-- What outputs hold where a run ended before its sessions, or a write before its end.
use Rattle.std.proofs.Common.{◌≡◌, ℕ, ◌+◌, ◌<◌, ◌≤◌, List, [], ◌∷◌, ◌++◌, length, take, drop}
use Rattle.std.proofs.Common.{refl, sym, ap, ◌∙◌, subst, arith, inl, inr, false, Vec, Global}
use Rattle.std.proofs.Common.{get_or, length-append, take-append-drop}
use Rattle.std.proofs.KnownBytes.{Appends-trans}
use Rattle.std.proofs.Math.Seq.{take-append-add}
use Rattle.std.proofs.lemmas.List.{take-append-le, drop_more}
use Rattle.std.proofs.lemmas.List.Concat.{flat_map-append}
use Rattle.std.specs.Prelude.{Option, Some, None, IfSome, Result, Ok, Err, OnErr, ◌⊎◌, slice_get}
use Rattle.std.specs.Str.{bytes_eq}
use Rattle.std.specs.Io.KnownBytes.{Appends}
use Rattle.gate_ports.specs.Bytes.{AppendsFront}
use Rattle.gate_ports.specs.Names.{Texts}
use Rattle.gate_files.specs.Joined.{joined}
use Rattle.gate_files.specs.Words.{FolderWords, RunWords, IsApart, venue_name, journal_name}
use Rattle.gate_files.specs.Words.{is_among, output_names}
use Rattle.gate_files.specs.Ports.{PortsValue}
use Rattle.gate_files.specs.Early.{KeepsOrFronts, MayEmpty, AreEmptied, LeavesEmpty}
use Rattle.gate_files.specs.Objects.{ObjectsValue, AreFresh, ChangesOutputs, HasCreated, HasClosed}
use Rattle.gate_files.specs.Objects.{EachHolds}
use Rattle.gate_files.proofs.Lists.{there_is}
use Rattle.gate_files.proofs.OutputNames.{apart_from_all, venues_apart, venue_isnt_client}
use Rattle.gate_files.proofs.OutputNames.{journal_isnt_client, journal_isnt_venue}

-- the sink was empty and got these bytes: it holds them
pub holds_appended : (held held_after : Option (List ℕ)) (text own : List ℕ) → held ≡ Some []
    → Appends held held_after text
    → IfSome held_after (λ bytes. bytes ≡ own) → own ≡ text
holds_appended None held_after text own empty appends is = absurd cc
holds_appended (Some before) None text own empty appends is = absurd appends
holds_appended (Some before) (Some after) text own empty appends is =
    let nothing : before ≡ [] = cc in sym is ∙ appends ∙ ap (λ s. s ++ text) nothing

-- a sink that is empty gives its name the empty text
holds_nothing : (held : Option (List ℕ)) (own : List ℕ) → held ≡ Some []
    → IfSome held (λ bytes. bytes ≡ own) → own ≡ []
holds_nothing None own empty is = absurd cc
holds_nothing (Some bytes) own empty is = let nothing : bytes ≡ [] = cc in sym is ∙ nothing

-- Where a sink got the first pieces, and a front of the next, it got a front of them all.
pub front_of_pieces : (held mid after : Option (List ℕ)) (pieces : List (Vec ℕ Global)) (n : ℕ)
    (piece : Vec ℕ Global) (bytes : List ℕ) → n < length pieces → piece ≡ get_or pieces n piece
    → bytes ≡ piece.items → Appends held mid (joined (take n pieces))
    → AppendsFront mid after bytes → AppendsFront held after (joined pieces)
front_of_pieces held mid after pieces n piece bytes below at same so_far (count, most, appends) =
    let first = joined (take n pieces) in
    let rest = joined (drop (n + 1) pieces) in
    let split : joined pieces ≡ first ++ (piece.items ++ rest) =
    ap joined (sym (take-append-drop n pieces))
    ∙ flat_map-append (λ (p : Vec ℕ Global). p.items) (take n pieces) (drop n pieces)
    ∙ ap (λ (l : List (Vec ℕ Global)). first ++ joined l) (drop_more pieces n piece below
    ∙ ap (λ (p : Vec ℕ Global). p ∷ drop (n + 1) pieces) (sym at)) in
    let few : count ≤ length piece.items = omega (arith, most, ap length same) in
    let taken : take (length first + count) (joined pieces) ≡ first ++ take count bytes =
    ap (take (length first + count)) split
    ∙ take-append-add first (piece.items ++ rest) count
    ∙ ap (λ (l : List ℕ). first ++ l) (take-append-le count piece.items rest few
    ∙ ap (take count) (sym same)) in (
      length first + count,
      omega (
        arith,
        few,
        ap length split,
        length-append first (piece.items ++ rest),
        length-append piece.items rest,
      ),
      subst (λ (l : List ℕ). Appends held after l) (sym taken)
          (Appends-trans held mid after first (take count bytes) so_far appends),
    )

-- what holds at every error
pub on_err_always : {T E P : Type 0} (r : Result T E) → P → OnErr r P
on_err_always (Ok value) p = tt
on_err_always (Err fault) p = p

-- the journal's name is none of the sessions' outputs
journal_apart : (out : FolderWords) (count : ℕ) → IsApart out count (journal_name out)
journal_apart out count session below = (
  journal_isnt_venue out session,
  journal_isnt_client out session,
)

-- where the sessions' outputs alone changed before, the journal's text is as it was, or a front
pub front_behind : (out : FolderWords) (count : ℕ) (before now after : Option Texts) (bytes : List ℕ)
    → ChangesOutputs out count before now → KeepsOrFronts now after (journal_name out) bytes
    → KeepsOrFronts before after (journal_name out) bytes
front_behind out count None now after bytes changes front = tt
front_behind out count (Some old) None after bytes (mid, there, same) front = absurd cc
front_behind out count (Some old) (Some texts) None bytes changes front = tt
front_behind out count (Some old) (Some texts) (Some new) bytes (mid, there, same) front =
    let is : texts ≡ mid = cc in
    elim front [
      | inl kept ↦ inl (kept ∙ ap (λ (t : Texts). t (journal_name out)) is
          ∙ same (journal_name out) (journal_apart out count))
      | inr written ↦ inr written
    ]

-- a session's first output is none of those before it
venue_apart : (out : FolderWords) (session : ℕ) → IsApart out session (venue_name out session)
venue_apart out session earlier below = (
  venues_apart out session earlier (λ is. absurd (omega arith)),
  venue_isnt_client out session earlier,
)

module _ (run : RunWords) (made : List ObjectsValue) where
  abbrev k : ℕ
  k = length made

  emptied : (old mid now new : Texts)
      → ((name : List ℕ) → IsApart run.out k name → mid name ≡ old name)
      → ((session : ℕ) (own : ObjectsValue) → slice_get made session ≡ Some own
      → AreFresh (Some old) own)
      → (now (venue_name run.out k) ≡ mid (venue_name run.out k))
      ⊎ (now (venue_name run.out k) ≡ Some [])
      → ((name : List ℕ) → bytes_eq name (venue_name run.out k) ≡ false → now name ≡ mid name)
      → ((name : List ℕ) → IsApart run.out k name → new name ≡ now name)
      → EachHolds run new made → AreEmptied run k old new
  emptied old mid now new first each own others last holds = record {
    made = λ earlier below.
        let one = there_is made earlier below in
        let fresh = each earlier one.0 one.1 in
        let held = holds earlier one.0 one.1 in (
          held.venue ∙ ap (λ (s : List ℕ). Some s)
              (holds_nothing _ _ fresh.venue_empty held.venue_told),
          held.client ∙ ap (λ (s : List ℕ). Some s)
              (holds_nothing _ _ fresh.client_empty held.client_told),
        );
    own = elim own [
      | inl same ↦ inl (last _ (venue_apart run.out k) ∙ same ∙ first _ (venue_apart run.out k))
      | inr empty ↦ inr (last _ (venue_apart run.out k) ∙ empty)
    ];
    others = λ name apart isnt. last name apart ∙ others name isnt ∙ first name apart;
  }

  texts_left : (t0 t1 t2 t3 : Option Texts) → ChangesOutputs run.out k t0 t1
      → ((session : ℕ) (own : ObjectsValue) → slice_get made session ≡ Some own
      → AreFresh t0 own)
      → MayEmpty t1 t2 (venue_name run.out k) → ChangesOutputs run.out k t2 t3
      → IfSome t2 (λ old. IfSome t3 (λ new. EachHolds run new made))
      → LeavesEmpty run k t0 t3
  texts_left None None None t3 first each may last holds = last
  texts_left None None (Some now) t3 first each may last holds = absurd cc
  texts_left None (Some mid) t2 t3 first each may last holds = absurd cc
  texts_left (Some old) None t2 t3 (texts, is, same) each may last holds = absurd cc
  texts_left (Some old) (Some mid) None t3 first each (texts, is, own, others) last holds = absurd
      cc
  texts_left (Some old) (Some mid) (Some now) None first each may (texts, is, same) holds = absurd
      cc
  texts_left (Some old) (Some mid) (Some now) (Some new) (first_texts, first_is, first) each
      (own_texts, own_is, own, others) (last_texts, last_is, last) holds =
      let mid_is : first_texts ≡ mid = cc in
      let now_is : own_texts ≡ now = cc in
      let new_is : last_texts ≡ new = cc in (
        new,
        refl,
        emptied old mid now new
            (subst (λ (t : Texts). (name : List ℕ) → IsApart run.out k name → t name ≡ old name)
            mid_is first)
            each
            (subst (λ (t : Texts). (t (venue_name run.out k) ≡ mid (venue_name run.out k))
            ⊎ (t (venue_name run.out k) ≡ Some [])) now_is own)
            (subst (λ (t : Texts). (name : List ℕ)
            → bytes_eq name (venue_name run.out k) ≡ false → t name ≡ mid name) now_is others)
            (subst (λ (t : Texts). (name : List ℕ) → IsApart run.out k name → t name ≡ now name)
            new_is last)
            holds,
      )

-- a session wasn't opened behind others, which were given back then
pub leaves_empty : (run : RunWords) (before now after last : PortsValue)
    (made : List ObjectsValue) (session : ℕ) (venue : List ℕ) → length made ≡ session
    → venue ≡ venue_name run.out session → HasCreated run before now made
    → MayEmpty now.texts after.texts venue → HasClosed run after last made
    → LeavesEmpty run session before.texts last.texts
leaves_empty run before now after last made session venue many is opened may closed =
    subst (λ (n : ℕ). LeavesEmpty run n before.texts last.texts) many
    (texts_left run made before.texts now.texts after.texts last.texts opened.texts opened.each
    (subst (λ (v : List ℕ). MayEmpty now.texts after.texts v)
    (is ∙ ap (venue_name run.out) (sym many)) may)
    closed.texts closed.holds)

-- names that are no outputs keep their texts then
pub others_left : (run : RunWords) (session : ℕ) (before after : Option Texts)
    → session < length run.sessions → LeavesEmpty run session before after
    → IfSome before (λ old. IfSome after (λ new. (name : List ℕ)
    → is_among name (output_names run.out (length run.sessions)) ≡ false → new name ≡ old name))
others_left run session None after below left = tt
others_left run session (Some old) None below left = tt
others_left run session (Some old) (Some new) below (texts, is, left) = λ name among.
    let same : new ≡ texts = cc in
    let apart = (apart_from_all run.out name (length run.sessions) among).0 in
    ap (λ (t : Texts). t name) same
    ∙ left.others name (λ earlier least. apart earlier (omega arith)) (apart session below).0
