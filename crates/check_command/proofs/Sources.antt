-- Sources of names, opened and given back one after another.
use Rattle.std.proofs.Common.{◌≡◌, ◌≢◌, ℕ, ◌+◌, ◌<◌, List, [], ◌∷◌, ◌++◌, length, map, take, get_or}
use Rattle.std.proofs.Common.{sym, ap, ◌∙◌, subst, arith, inl, inr, String, Global, string_bytes}
use Rattle.std.proofs.Common.{length-take, refl}
use Rattle.std.proofs.lemmas.List.{get_or-map}
use Rattle.std.proofs.lemmas.Option.{slice_get_within}
use Rattle.std.specs.Prelude.{Option, Some, None, slice_get}
use Rattle.gate_ports.specs.Faults.{HasNamedCause, NeverFalls, Rose}
use Rattle.gate_ports.specs.Names.{Texts, IsOpened, IsThere}
use Rattle.gate_files.specs.declared.status.Status.{Status}
use Rattle.gate_files.specs.declared.status.Status.TheVariants as status
use Rattle.gate_files.specs.Ports.{PortsValue}
use Rattle.gate_files.specs.Stages.{IsNewSource, IsOwn, IsUnread, Went}
use Rattle.gate_files.proofs.Lists.{pushed_at, take_one}
use Rattle.check_command.specs.Inputs.{name_in, AreNew, AreOwn, AreGivenBack, HasUnopened}

-- the name in a place, as the program keeps it
pub name_at : (names : List (String Global)) (place : ℕ) (name : String Global) (text : List ℕ)
    → place < length names → name ≡ get_or names place name → text ≡ string_bytes name
    → text ≡ name_in (map string_bytes names) place
name_at names place name text below at is =
    is ∙ ap (λ (s : String Global). string_bytes s) at
    ∙ sym (get_or-map string_bytes names place name [] below)

-- what was opened is there
pub there : (told : Option Texts) (name : List ℕ) (left : Option (List ℕ)) → IsOpened told name left
    → IsThere told name
there None name left opened = tt
there (Some texts) name left opened = opened.0

-- a name that was not opened between two moments was not before and after them
pub unread_among : (before now after last : PortsValue) (name : List ℕ) (s : Status)
    → Went before now → Went after last → IsUnread now after name s → IsUnread before last name s
unread_among before now after last name status.ReadFault earlier later rose =
    omega (arith, earlier.read name, later.read name, rose)
unread_among before now after last name status.Memory earlier later cause = tt
unread_among before now after last name other earlier later cause = cause

-- a name in its place was not opened, and those before it were given back then
pub unopened_at : (names : List (List ℕ)) (before now after last : PortsValue) (place : ℕ)
    (own : List ℕ) (s : Status) → place < length names → own ≡ name_in names place
    → Went before now → Went after last → IsUnread now after own s
    → HasUnopened names before last s
unopened_at names before now after last place own s below is earlier later cause = record {
  place = place;
  in_range = below;
  cause = subst (λ (n : List ℕ). IsUnread before last n s) is
      (unread_among before now after last own s earlier later cause);
}

module _ {S : Type 0} (left name : S → Option (List ℕ)) (faults : S → ℕ) where
  pub none_new : (told : Option Texts) (names : List (List ℕ))
      → AreNew left name faults told names []
  none_new told names = record { each = λ place one is. absurd cc }

  -- one source more
  pub one_more_new : (told now : Option Texts) (names : List (List ℕ)) (all pushed : List S)
      (one : S) (place : ℕ) (own : List ℕ) → length all ≡ place → own ≡ name_in names place
      → now ≡ told → AreNew left name faults told names all
      → IsNewSource now own (left one) (name one) (faults one) → pushed ≡ all ++ one ∷ []
      → AreNew left name faults told names pushed
  one_more_new told now names all pushed one place own many own_is same new source is =
      let here : IsNewSource told (name_in names place) (left one) (name one) (faults one) =
      subst (λ (n : List ℕ). IsNewSource told n (left one) (name one) (faults one)) own_is
      (subst (λ (t : Option Texts). IsNewSource t own (left one) (name one) (faults one)) same
      source) in
      subst (λ (l : List S). AreNew left name faults told names l) (sym is)
      (record {
        each = λ at other got. elim (pushed_at all one at other got) [
          | inl before ↦ new.each at other before
          | inr last ↦ subst (λ (x : S). IsNewSource told (name_in names at) (left x) (name x)
              (faults x)) last.1
              (subst (λ (n : ℕ). IsNewSource told (name_in names n) (left one) (name one)
              (faults one)) (sym (last.0 ∙ many)) here)
        ];
      })

  -- new sources may be given back
  pub new_own : (told now : Option Texts) (names : List (List ℕ)) (sources : List S) → now ≡ told
      → AreNew left name faults told names sources → AreOwn name now names sources
  new_own told now names sources same new =
      subst (λ (t : Option Texts). AreOwn name t names sources) (sym same)
      (record {
        each = λ place one is.
            let source = new.each place one is in
            record { means = source.means; there = there told _ _ source.opened };
      })

  -- the next of those that are left may be given back
  pub next_own : (told now : Option Texts) (names : List (List ℕ)) (sources : List S) (place : ℕ)
      (next : S) (own : List ℕ) → slice_get sources place ≡ Some next → own ≡ name_in names place
      → now ≡ told → AreOwn name told names sources → IsOwn now own (name next)
  next_own told now names sources place next own at own_is same owned =
      subst (λ (n : List ℕ). IsOwn now n (name next)) (sym own_is)
      (subst (λ (t : Option Texts). IsOwn t (name_in names place) (name next)) (sym same)
      (owned.each place next at))

  pub none_given : (names : List (List ℕ)) (before : PortsValue) → Went before before
      → AreGivenBack faults names before before []
  none_given names before nowhere =
      record { went = nowhere; texts = refl; causes = λ place one is some. absurd cc }

  -- one source more
  pub one_given_back : (names : List (List ℕ)) (before now after : PortsValue) (sources : List S)
      (place : ℕ) (one : S) (own : List ℕ) → slice_get sources place ≡ Some one
      → own ≡ name_in names place → AreGivenBack faults names before now (take place sources)
      → after.texts ≡ now.texts
      → HasNamedCause now.read_faults after.read_faults own (faults one ≢ 0)
      → NeverFalls now.write_faults after.write_faults
      → AreGivenBack faults names before after (take (place + 1) sources)
  one_given_back names before now after sources place one own at own_is given texts cause writes =
      let below : place < length sources = slice_get_within sources place one at in
      let count : length (take place sources) ≡ place =
      omega (arith, length-take place sources, below) in
      let same : after.texts ≡ before.texts = texts ∙ given.texts in
      let named : HasNamedCause now.read_faults after.read_faults (name_in names place)
      (faults one ≢ 0) = subst (λ (n : List ℕ). HasNamedCause now.read_faults after.read_faults n
      (faults one ≢ 0)) own_is cause in
      subst (λ (l : List S). AreGivenBack faults names before after l)
      (sym (take_one sources place one at))
      (record {
        went = record {
          read = λ n. omega (arith, given.went.read n, cause.later n);
          written = λ n. omega (arith, given.went.written n, writes n);
          names = λ n is. subst (λ (t : Option Texts). IsThere t n) (sym same) is;
        };
        texts = same;
        causes = λ other x is some. elim (pushed_at (take place sources) one other x is) [
          | inl earlier ↦ omega (
            arith,
            given.causes other x earlier some,
            cause.later (name_in names other),
          )
          | inr last ↦
              let here : other ≡ place = last.0 ∙ count in
              subst (λ (n : ℕ). Rose (before.read_faults (name_in names n))
              (after.read_faults (name_in names n))) (sym here)
              (omega (
                arith,
                named.rose (subst (λ (y : S). faults y ≢ 0) (sym last.1) some),
                given.went.read (name_in names place),
              ))
        ];
      })
