-- Sessions are opened and closed one after another: names, counts and texts over several steps.
use Rattle.std.proofs.Common.{◌≡◌, ℕ, ◌+◌, ◌<◌, List, [], ◌∷◌, ◌++◌, length, refl}
use Rattle.std.proofs.Common.{sym, ap, ◌∙◌}
use Rattle.std.proofs.Common.{arith, subst, inl, inr, Bool, true, false, cond, length-append}
use Rattle.std.proofs.lemmas.Option.{slice_get_within}
use Rattle.std.specs.Prelude.{Option, Some, None, IfSome, IsSome}
use Rattle.std.specs.Option.{is_some, option_map}
use Rattle.std.specs.Str.{bytes_eq}
use Rattle.gate_ports.specs.Names.{Texts, IsThere, IsOpened, IsEmptySink}
use Rattle.gate_files.specs.declared.status.Status.{Status}
use Rattle.gate_files.specs.declared.status.Status.TheVariants as status
use Rattle.gate_files.specs.Words.{FolderWords, RunWords, IsApart, venue_name, client_name}
use Rattle.gate_files.specs.Ports.{PortsValue, session_name}
use Rattle.gate_files.specs.Stages.{Went, IsOwn, AreClosed, IsUnopened, IsNewSource, IsNewSink}
use Rattle.gate_files.specs.Stages.{with_two}
use Rattle.gate_files.specs.Objects.{ObjectsValue, AreOwn, EachOwn, AreNew}
use Rattle.gate_files.specs.Objects.{ChangesOutputs}
use Rattle.gate_files.specs.Objects.{HasCreated}
use Rattle.gate_files.specs.Objects.{HasOpened, HoldsOutputs, EachHolds, HasCauses, HasClosed}
use Rattle.gate_files.proofs.Lists.{pushed_at}
use Rattle.gate_files.proofs.OutputNames.{same_name, venues_apart, clients_apart, venue_isnt_client}
use Rattle.gate_files.proofs.OutputNames.{client_isnt_venue}

-- counts and names over two steps
pub went_on : (before now after : PortsValue) → Went before now → Went now after → Went before after
went_on before now after one two = record {
  read = λ name. omega (arith, one.read name, two.read name);
  written = λ name. omega (arith, one.written name, two.written name);
  names = λ name there. two.names name (one.names name there);
}

pub went_nowhere : (before : PortsValue) → Went before before
went_nowhere before = record {
  read = λ name. omega arith;
  written = λ name. omega arith;
  names = λ name there. there;
}

-- an object may still be given back under its name
pub own_later : (now after : PortsValue) (name : List ℕ) (own : Option (List ℕ)) → Went now after
    → IsOwn now.texts name own → IsOwn after.texts name own
own_later now after name own went is =
    record { means = is.means; there = went.names name is.there }

pub are_own_later : (run : RunWords) (now after : PortsValue) (session : ℕ) (own : ObjectsValue)
    → Went now after → AreOwn run now.texts session own → AreOwn run after.texts session own
are_own_later run now after session own went are = record {
  input = own_later now after _ _ went are.input;
  venue = own_later now after _ _ went are.venue;
  client = own_later now after _ _ went are.client;
}

pub each_own_later : (run : RunWords) (now after : PortsValue) (objects : List ObjectsValue)
    → Went now after → EachOwn run now.texts objects → EachOwn run after.texts objects
each_own_later run now after objects went each session own is =
    are_own_later run now after session own went (each session own is)

-- two names were set, and another keeps its text
other_text : (b c : Bool) (x y z : Option (List ℕ)) → b ≡ false → c ≡ false
    → cond c x (cond b y z) ≡ z
other_text b c x y z not_b not_c =
    ap (λ (t : Bool). cond t x (cond b y z)) not_c ∙ ap (λ (t : Bool). cond t y z) not_b

second_text : (b c : Bool) (x y z : Option (List ℕ)) → c ≡ true → cond c x (cond b y z) ≡ x
second_text b c x y z is = ap (λ (t : Bool). cond t x (cond b y z)) is

first_text : (b c : Bool) (x y z : Option (List ℕ)) → b ≡ true → c ≡ false
    → cond c x (cond b y z) ≡ y
first_text b c x y z is not_c =
    ap (λ (t : Bool). cond t x (cond b y z)) not_c ∙ ap (λ (t : Bool). cond t y z) is

-- apart from one session more is apart from those before, and from the last
fewer_apart : (out : FolderWords) (name : List ℕ) (made : List ObjectsValue) (own : ObjectsValue)
    → IsApart out (length (made ++ own ∷ [])) name
    → IsApart out (length made) name
    × ((bytes_eq name (venue_name out (length made)) ≡ false)
    × (bytes_eq name (client_name out (length made)) ≡ false))
fewer_apart out name made own apart =
    let longer : length (made ++ own ∷ []) ≡ length made + 1 = length-append made (own ∷ []) in (
      λ session below. apart session (omega arith),
      apart (length made) (omega arith),
    )

-- A session was opened, with its outputs.
pub record OpensOne (run : RunWords) (before after : PortsValue) (session : ℕ) (own : ObjectsValue)
    : Type 0 where
  pub went : Went before after
  pub texts : after.texts
      ≡ option_map (with_two (venue_name run.out session) [] (client_name run.out session) [])
      before.texts
  pub input : IsNewSource before.texts (session_name run session) own.left own.input_name
      own.input_faults
  pub venue : IsNewSink before.texts (venue_name run.out session) own.venue_held own.venue_name
      own.venue_faults
  pub client : IsNewSink before.texts (client_name run.out session) own.client_held own.client_name
      own.client_faults

-- its outputs are there
made_some : (b c : Bool) (text : Option (List ℕ)) → b ≡ true
    → is_some (cond c (Some []) (cond b (Some []) text)) ≡ true
made_some b true text is = refl
made_some true false text is = refl
made_some false false text is = absurd cc

made_first : (c : Bool) (text : Option (List ℕ)) → c ≡ true → is_some (cond c (Some []) text) ≡ true
made_first true text is = refl
made_first false text is = absurd cc

pub venue_made : (told after : Option Texts) (venue client : List ℕ)
    → after ≡ option_map (with_two venue [] client []) told → IsThere after venue
venue_made None None venue client made = tt
venue_made None (Some texts) venue client made = absurd cc
venue_made (Some old) None venue client made = tt
venue_made (Some old) (Some texts) venue client made =
    let same : texts ≡ with_two venue [] client [] old = cc in
    subst (λ (t : Texts). is_some (t venue) ≡ true) (sym same)
    (made_some (bytes_eq venue venue) (bytes_eq venue client) _ (same_name venue))

pub client_made : (told after : Option Texts) (venue client : List ℕ)
    → after ≡ option_map (with_two venue [] client []) told → IsThere after client
client_made None None venue client made = tt
client_made None (Some texts) venue client made = absurd cc
client_made (Some old) None venue client made = tt
client_made (Some old) (Some texts) venue client made =
    let same : texts ≡ with_two venue [] client [] old = cc in
    subst (λ (t : Texts). is_some (t client) ≡ true) (sym same)
    (made_first (bytes_eq client client) _ (same_name client))

-- an input that was opened is there
pub input_there : (told : Option Texts) (name : List ℕ) (left own : Option (List ℕ)) (faults : ℕ)
    → IsNewSource told name left own faults → IsThere told name
input_there None name left own faults new = tt
input_there (Some texts) name left own faults new = new.opened.0

-- the objects that were just opened may be given back
pub opened_are_own : (run : RunWords) (before after : PortsValue) (session : ℕ) (own : ObjectsValue)
    → OpensOne run before after session own → AreOwn run after.texts session own
opened_are_own run before after session own opens = record {
  input = record {
    means = opens.input.means;
    there = opens.went.names _ (input_there _ _ _ _ _ opens.input);
  };
  venue = record { means = opens.venue.means; there = venue_made _ _ _ _ opens.texts };
  client = record { means = opens.client.means; there = client_made _ _ _ _ opens.texts };
}

module _ (run : RunWords) (made : List ObjectsValue) (own : ObjectsValue) where
  -- the texts over the sessions before and one more
  pub texts_more : (t0 t1 t2 : Option Texts) → ChangesOutputs run.out (length made) t0 t1
      → t2 ≡ option_map (with_two (venue_name run.out (length made)) []
      (client_name run.out (length made)) []) t1
      → ChangesOutputs run.out (length (made ++ own ∷ [])) t0 t2
  texts_more None None t2 changes is = is
  texts_more None (Some mid) t2 changes is = absurd cc
  texts_more (Some old) None t2 (new, there, same) is = absurd cc
  texts_more (Some old) (Some mid) t2 (new, there, same) is = (
    with_two (venue_name run.out (length made)) [] (client_name run.out (length made)) [] mid,
    is,
    λ name apart. let fewer = fewer_apart run.out name made own apart in
        other_text (bytes_eq name (venue_name run.out (length made)))
        (bytes_eq name (client_name run.out (length made))) _ _ _ fewer.1.0 fewer.1.1
        ∙ ap (λ (t : Texts). t name) (mid_is mid new there) ∙ same name fewer.0,
  ) where
    mid_is : (mid new : Texts) → Some mid ≡ Some new → mid ≡ new
    mid_is mid new there = cc

  -- what is new behind the sessions before is new from the start
  new_from : (t0 t1 : Option Texts) (name : List ℕ) → ChangesOutputs run.out (length made) t0 t1
      → IsApart run.out (length made) name → IsOpened t1 name own.left → IsOpened t0 name own.left
  new_from None t1 name changes apart opened = tt
  new_from (Some old) None name (new, there, same) apart opened = absurd cc
  new_from (Some old) (Some mid) name (new, there, same) apart opened =
      let is : mid ≡ new = cc in
      let text : mid name ≡ old name = ap (λ (t : Texts). t name) is ∙ same name apart in (
        subst (λ (o : Option (List ℕ)). IsSome o) text opened.0,
        opened.1 ∙ text,
      )

  pub empty_from : (t0 t1 : Option Texts) (held : Option (List ℕ))
      → ChangesOutputs run.out (length made) t0 t1 → IsEmptySink t1 held → IsEmptySink t0 held
  empty_from None t1 held changes empty = tt
  empty_from (Some old) None held (new, there, same) empty = absurd cc
  empty_from (Some old) (Some mid) held (new, there, same) empty = empty

-- an input that was opened tells what is left
opened_is_told : (told : Option Texts) (name : List ℕ) (left : Option (List ℕ))
    → IsOpened told name left → IfSome told (λ _. IsSome left)
opened_is_told None name left opened = tt
opened_is_told (Some texts) name left (there, is) =
    subst (λ (o : Option (List ℕ)). IsSome o) (sym is) there

-- one session more was opened
pub one_opened : (run : RunWords) (before now after : PortsValue) (made : List ObjectsValue)
    (own : ObjectsValue)
    → IsApart run.out (length made) (session_name run (length made))
    → HasOpened run before now made → OpensOne run now after (length made) own
    → HasOpened run before after (made ++ own ∷ [])
one_opened run before now after made own apart opened opens = record {
  went = went_on before now after opened.went opens.went;
  texts = texts_more run made own before.texts now.texts after.texts opened.texts opens.texts;
  each = λ session one is. elim (pushed_at made own session one is) [
    | inl here ↦ opened.each session one here
    | inr last ↦ subst (λ (v : ObjectsValue). AreNew run before.texts session v) last.1
        (subst (λ (n : ℕ). AreNew run before.texts n own) (sym last.0) is_new)
  ];
  own = λ session one is. elim (pushed_at made own session one is) [
    | inl here ↦ are_own_later run now after session one opens.went (opened.own session one here)
    | inr last ↦ subst (λ (v : ObjectsValue). AreOwn run after.texts session v) last.1
        (subst (λ (n : ℕ). AreOwn run after.texts n own) (sym last.0)
        (opened_are_own run now after (length made) own opens))
  ];
} where
  is_opened : IsOpened before.texts (session_name run (length made)) own.left
  is_opened = new_from run made own before.texts now.texts _ opened.texts apart opens.input.opened

  is_new : AreNew run before.texts (length made) own
  is_new = record {
    opened = is_opened;
    fresh = record {
      left = opened_is_told before.texts _ own.left is_opened;
      venue_empty = empty_from run made own before.texts now.texts _ opened.texts opens.venue.empty;
      client_empty = empty_from run made own before.texts now.texts _ opened.texts
          opens.client.empty;
      input_fresh = opens.input.fresh;
      venue_fresh = opens.venue.fresh;
      client_fresh = opens.client.fresh;
    };
  }

pub changes_nothing : (out : FolderWords) (told : Option Texts) → ChangesOutputs out 0 told told
changes_nothing out None = refl
changes_nothing out (Some old) = (old, refl, λ name apart. refl)

-- none yet
pub none_opened : (run : RunWords) (before : PortsValue) → HasOpened run before before []
none_opened run before = record {
  went = went_nowhere before;
  texts = changes_nothing run.out before.texts;
  each = λ session own is. absurd cc;
  own = λ session own is. absurd cc;
}

-- A session's objects were given back and closed.
pub record ClosesOne (run : RunWords) (before after : PortsValue) (session : ℕ) (own : ObjectsValue)
    : Type 0 where
  pub went : Went before after
  pub texts : AreClosed before.texts after.texts (venue_name run.out session)
      (client_name run.out session) own.venue_held own.client_held
  pub causes : HasCauses run before after session own

holds_none : (run : RunWords) (t0 t1 : Option Texts)
    → IfSome t0 (λ old. IfSome t1 (λ new. EachHolds run new []))
holds_none run None t1 = tt
holds_none run (Some old) None = tt
holds_none run (Some old) (Some new) = λ session own is. absurd cc

pub none_closed : (run : RunWords) (before : PortsValue) → HasClosed run before before []
none_closed run before = record {
  went = went_nowhere before;
  texts = changes_nothing run.out before.texts;
  holds = holds_none run before.texts before.texts;
  causes = λ session own is. absurd cc;
}

-- a cause that stood before stands later
pub causes_later : (run : RunWords) (before now after : PortsValue) (session : ℕ)
    (own : ObjectsValue)
    → Went now after → HasCauses run before now session own → HasCauses run before after session own
causes_later run before now after session own went causes = record {
  input = λ some. omega (arith, causes.input some, went.read (session_name run session));
  venue = λ some. omega (arith, causes.venue some, went.written (venue_name run.out session));
  client = λ some. omega (arith, causes.client some, went.written (client_name run.out session));
}

pub causes_earlier : (run : RunWords) (before now after : PortsValue) (session : ℕ)
    (own : ObjectsValue)
    → Went before now → HasCauses run now after session own → HasCauses run before after session own
causes_earlier run before now after session own went causes = record {
  input = λ some. omega (arith, causes.input some, went.read (session_name run session));
  venue = λ some. omega (arith, causes.venue some, went.written (venue_name run.out session));
  client = λ some. omega (arith, causes.client some, went.written (client_name run.out session));
}

module _ (run : RunWords) (made : List ObjectsValue) (own : ObjectsValue) where
  abbrev k : ℕ
  k = length made

  -- the outputs of a session before keep what they hold
  holds_still : (mid new : Texts) (to_venue to_client : List ℕ) (session : ℕ) (one : ObjectsValue)
      → new ≡ with_two (venue_name run.out k) to_venue (client_name run.out k) to_client mid
      → session < k → HoldsOutputs run mid session one → HoldsOutputs run new session one
  holds_still mid new to_venue to_client session one same below holds = record {
    to_venue = holds.to_venue;
    to_client = holds.to_client;
    venue = ap (λ (t : Texts). t (venue_name run.out session)) same
        ∙ other_text _ _ _ _ _ (venues_apart run.out session k (λ is. absurd (omega arith)))
        (venue_isnt_client run.out session k) ∙ holds.venue;
    client = ap (λ (t : Texts). t (client_name run.out session)) same
        ∙ other_text _ _ _ _ _ (client_isnt_venue run.out session k)
        (clients_apart run.out session k (λ is. absurd (omega arith))) ∙ holds.client;
    venue_told = holds.venue_told;
    client_told = holds.client_told;
  }

  -- those of the last hold what its sinks held
  holds_now : (mid new : Texts) (to_venue to_client : List ℕ)
      → new ≡ with_two (venue_name run.out k) to_venue (client_name run.out k) to_client mid
      → IfSome own.venue_held (λ held. held ≡ to_venue)
      → IfSome own.client_held (λ held. held ≡ to_client) → HoldsOutputs run new k own
  holds_now mid new to_venue to_client same venue_told client_told = record {
    to_venue = to_venue;
    to_client = to_client;
    venue = ap (λ (t : Texts). t (venue_name run.out k)) same
        ∙ first_text _ _ _ _ _ (same_name (venue_name run.out k)) (venue_isnt_client run.out k k);
    client = ap (λ (t : Texts). t (client_name run.out k)) same
        ∙ second_text (bytes_eq (client_name run.out k) (venue_name run.out k)) _ (Some to_client)
        (Some to_venue) (mid (client_name run.out k)) (same_name (client_name run.out k));
    venue_told = venue_told;
    client_told = client_told;
  }

  closed_texts : (t0 t1 t2 : Option Texts) → ChangesOutputs run.out k t0 t1
      → IfSome t0 (λ old. IfSome t1 (λ new. EachHolds run new made))
      → AreClosed t1 t2 (venue_name run.out k) (client_name run.out k) own.venue_held
      own.client_held
      → ChangesOutputs run.out (length (made ++ own ∷ [])) t0 t2
      × IfSome t0 (λ old. IfSome t2 (λ new. EachHolds run new (made ++ own ∷ [])))
  closed_texts None None t2 changes holds closed = (closed, tt)
  closed_texts None (Some mid) t2 changes holds closed = absurd cc
  closed_texts (Some old) None t2 (new, there, same) holds closed = absurd cc
  closed_texts (Some old) (Some mid) None changes holds (to_venue, to_client, is, vt, ct) = absurd
      cc
  closed_texts (Some old) (Some mid) (Some new) (now, there, same) holds
      (to_venue, to_client, is, vt, ct) =
      let mid_is : mid ≡ now = cc in
      let new_is : new ≡ with_two (venue_name run.out k) to_venue (client_name run.out k) to_client
      mid =
      cc in (
        (
          new,
          refl,
          λ name apart. let fewer = fewer_apart run.out name made own apart in
              ap (λ (t : Texts). t name) new_is
              ∙ other_text (bytes_eq name (venue_name run.out k))
              (bytes_eq name (client_name run.out k)) _ _ _ fewer.1.0 fewer.1.1
              ∙ ap (λ (t : Texts). t name) mid_is ∙ same name fewer.0,
        ),
        λ session one at. elim (pushed_at made own session one at) [
          | inl here ↦ holds_still mid new to_venue to_client session one new_is
              (slice_get_within made session one here) (holds session one here)
          | inr last ↦ subst (λ (v : ObjectsValue). HoldsOutputs run new session v) last.1
              (subst (λ (n : ℕ). HoldsOutputs run new n own) (sym last.0)
              (holds_now mid new to_venue to_client new_is vt ct))
        ],
      )

-- one session more was closed
pub one_closed : (run : RunWords) (before now after : PortsValue) (made : List ObjectsValue)
    (own : ObjectsValue) → HasClosed run before now made → ClosesOne run now after (length made) own
    → HasClosed run before after (made ++ own ∷ [])
one_closed run before now after made own closed closes =
    let texts = closed_texts run made own before.texts now.texts after.texts closed.texts
    closed.holds
    closes.texts in
    record {
      went = went_on before now after closed.went closes.went;
      texts = texts.0;
      holds = texts.1;
      causes = λ session one is. elim (pushed_at made own session one is) [
        | inl here ↦ causes_later run before now after session one closes.went
            (closed.causes session one here)
        | inr last ↦ subst (λ (v : ObjectsValue). HasCauses run before after session v) last.1
            (subst (λ (n : ℕ). HasCauses run before after n own) (sym last.0)
            (causes_earlier run before now after (length made) own closed.went closes.causes))
      ];
    }

-- a session that wasn't opened behind others, which were given back then
pub unopened_among : (before now after last : PortsValue) (session venue client : List ℕ)
    (s : Status)
    → Went before now → Went after last → IsUnopened now after session venue client s
    → IsUnopened before last session venue client s
unopened_among before now after last session venue client status.ReadFault earlier later rose =
    omega (arith, earlier.read session, later.read session, rose)
unopened_among before now after last session venue client status.WriteFault earlier later (inl rose)
    =
    inl (omega (arith, earlier.written venue, later.written venue, rose))
unopened_among before now after last session venue client status.WriteFault earlier later (inr rose)
    =
    inr (omega (arith, earlier.written client, later.written client, rose))
unopened_among before now after last session venue client status.Memory earlier later rose = tt
unopened_among before now after last session venue client status.Done earlier later rose = rose
unopened_among before now after last session venue client status.Usage earlier later rose = rose
unopened_among before now after last session venue client (status.Limits why) earlier later rose =
    rose
unopened_among before now after last session venue client status.CutShort earlier later rose = rose
unopened_among before now after last session venue client status.Unlawful earlier later rose = rose

-- objects that were opened are fresh
pub created : (run : RunWords) (before after : PortsValue) (objects : List ObjectsValue)
    → HasOpened run before after objects → HasCreated run before after objects
created run before after objects opened = record {
  went = opened.went;
  texts = opened.texts;
  each = λ session own is. (opened.each session own is).fresh;
  own = opened.own;
}
