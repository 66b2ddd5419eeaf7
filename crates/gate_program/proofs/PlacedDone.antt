-- What sessions did they did with the places of their reads too.
use Rattle.std.proofs.Common.{◌≡◌, ℕ, ◌^◌, ◌<◌, List, [], ◌∷◌, ◌++◌, length, map, refl, sym, ap}
use Rattle.std.proofs.Common.{◌∙◌, subst, inl, inr, arith, Vec, Global}
use Rattle.std.proofs.lemmas.List.{length-map}
use Rattle.std.proofs.lemmas.Option.{slice_get_within}
use Rattle.std.specs.Prelude.{Option, Some, None, slice_get, ◌⊎◌, All}
use Rattle.std.specs.List.{AllByRecursion}
use Rattle.std.proofs.lemmas.List.Elements.{All-from_recursion}
use Rattle.limit_table.specs.declared.limits.Limits.{Limits}
use Rattle.risk_journal.specs.declared.acts.Act.{Act}
use Rattle.risk_journal.specs.declared.acts.Act.TheVariants.{Post, Read, Sent, Refused, Noted}
use Rattle.risk_journal.specs.declared.acts.Act.TheVariants.{Ended}
use Rattle.risk_journal.specs.declared.acts.End.{End}
use Rattle.risk_journal.specs.ActLists.{unplaced}
use Rattle.screen_kit.specs.Screens.{ScreenValue}
use Rattle.session_engine.specs.Follows.{SinkValue}
use Rattle.session_engine.specs.Follows.{FollowsSource, FollowsInput, IsByInput, StopsSource}
use Rattle.session_engine.specs.Follows.{EndsAs, EndsWith}
use Rattle.session_engine.specs.Session.{armed_for}
use Rattle.gate_files.specs.Objects.{ObjectsValue, AreCounts}
use Rattle.gate_program.specs.Objects.{HasDone, HaveDone, venue_of, client_of}
use Rattle.gate_program.specs.Telling.{Teller}
use Rattle.gate_files.specs.Words.{RunWords}
use Rattle.gate_files.specs.Ports.{PortsValue}
use Rattle.gate_program.specs.Run.{set_of}
use Rattle.gate_program.specs.Finish.{HasEnded, HasKept}
use Rattle.gate_files.proofs.Lists.{map_at, mapped_at}

-- what follows from an input doesn't know the places of reads
pub record PlacesLaw : Type 0 where
  pub free : (limits : Limits) (screens : List ScreenValue) (bytes : List ℕ)
      (acts others : List Act) (end : End) (venue client : List ℕ)
      → map unplaced others ≡ map unplaced acts
      → FollowsInput limits screens bytes acts end venue client
      → FollowsInput limits screens bytes others end venue client
  pub early : (limits : Limits) (screens : List ScreenValue) (acts others : List Act)
      → map unplaced others ≡ map unplaced acts
      → (left left_after : Option (List ℕ)) (end : End)
      (venue venue_after client client_after : SinkValue)
      → StopsSource limits screens left left_after acts end venue venue_after client client_after
      → StopsSource limits screens left left_after others end venue venue_after client client_after

-- an act that differs from the last one in a place alone is it
ended_itself : (act : Act) (end : End) → unplaced act ≡ Ended end → act ≡ Ended end
ended_itself (Post tree index value) end same = absurd cc
ended_itself (Read tree stamp place value) end same = absurd cc
ended_itself (Sent frame) end same = absurd cc
ended_itself (Refused frame code first second) end same = absurd cc
ended_itself (Noted frame code first second) end same = absurd cc
ended_itself (Ended own) end same = same

none_alike : (acts : List Act) → map unplaced acts ≡ [] → acts ≡ []
none_alike [] same = refl
none_alike (act ∷ acts) same = absurd cc

-- acts alike end alike
ends_alike : (acts front : List Act) (end : End)
    → map unplaced acts ≡ map unplaced (front ++ Ended end ∷ []) → EndsWith acts end
ends_alike [] [] end same = absurd cc
ends_alike [] (first ∷ front) end same = absurd cc
ends_alike (act ∷ acts) [] end same =
    let one : unplaced act ≡ Ended end = cc in
    let none : map unplaced acts ≡ [] = cc in (
      [],
      ap (λ (a : Act). a ∷ acts) (ended_itself act end one)
          ∙ ap (λ (l : List Act). Ended end ∷ l) (none_alike acts none),
    )
ends_alike (act ∷ acts) (first ∷ front) end same =
    let rest : map unplaced acts ≡ map unplaced (front ++ Ended end ∷ []) = cc in
    let later = ends_alike acts front end rest in
    (act ∷ later.0, ap (λ (l : List Act). act ∷ l) later.1)

end_alike : (placed acts : List Act) (end : End) → map unplaced placed ≡ map unplaced acts
    → EndsAs acts end → EndsAs placed end
end_alike placed acts end same (inl (front, is)) =
    inl (ends_alike placed front end (same ∙ ap (map unplaced) is))
end_alike placed acts end same (inr (none, memory)) =
    inr (none_alike placed (same ∙ ap (map unplaced) none), memory)

source_alike : PlacesLaw → (limits : Limits) (screens : List ScreenValue) (left : Option (List ℕ))
    (placed acts : List Act) (end : End) (hv va hc ca : Option (List ℕ))
    → map unplaced placed ≡ map unplaced acts
    → FollowsSource limits screens left acts end hv va hc ca
    → FollowsSource limits screens left placed end hv va hc ca
source_alike law limits screens None placed acts end hv va hc ca same follows = tt
source_alike law limits screens (Some bytes) placed acts end hv va hc ca same
    (to_venue, to_client, venue, client, follows) = (
      to_venue,
      to_client,
      venue,
      client,
      law.free limits screens bytes acts placed end to_venue to_client same follows,
    )

one_alike : PlacesLaw → (limits : Limits) (screens : List ScreenValue) (before after : ObjectsValue)
    (placed acts : List Act) (end : End) → map unplaced placed ≡ map unplaced acts
    → HasDone limits screens before after acts end → HasDone limits screens before after placed end
one_alike law limits screens before after placed acts end same done = record {
  follows = record {
    input = λ by_input.
        source_alike law limits _ before.left placed acts end before.venue_held after.venue_held
        before.client_held after.client_held same (done.follows.input by_input);
    early = early_alike done.follows.early;
  };
  read = done.read;
  write = done.write;
  ends = end_alike placed acts end same done.ends;
  input_name = done.input_name;
  venue_name = done.venue_name;
  client_name = done.client_name;
}
  where
    early_alike : (IsByInput end ⊎ StopsSource limits (armed_for limits screens) before.left
        after.left acts end (venue_of before) (venue_of after) (client_of before)
        (client_of after))
        → IsByInput end ⊎ StopsSource limits (armed_for limits screens) before.left after.left
        placed end (venue_of before) (venue_of after) (client_of before) (client_of after)
    early_alike (inl by_input) = inl by_input
    early_alike (inr stops) = inr (law.early limits (armed_for limits screens) acts placed same
        before.left after.left end (venue_of before) (venue_of after) (client_of before)
        (client_of after) stops)

-- what all sessions did, with their sets of screens, they did with places too, with these sets
pub done_alike : PlacesLaw → (limits : Limits) (sets others : List (List ScreenValue))
    (before after : List ObjectsValue) (placed acts : List (List Act)) (ends : List End)
    → map (map unplaced) placed ≡ map (map unplaced) acts
    → ((session : ℕ) → session < length before → set_of others session ≡ set_of sets session)
    → HaveDone limits others before after acts ends → HaveDone limits sets before after placed ends
done_alike law limits sets others before after placed acts ends same sets_are done = record {
  act_count = sym (length-map placed (map unplaced)) ∙ ap length same
      ∙ length-map acts (map unplaced) ∙ done.act_count;
  end_count = done.end_count;
  object_count = done.object_count;
  each = λ session own now did end is_own is_now is_did is_end.
      let raw = mapped_at (map unplaced) acts session (map unplaced did)
      (ap (λ l. slice_get l session) (sym same) ∙ map_at (map unplaced) placed session did is_did)
      in
      subst (λ (s : List ScreenValue). HasDone limits s own now did end)
      (sets_are session (slice_get_within before session own is_own))
      (one_alike law limits (set_of others session) own now did raw.0 end (sym raw.2)
      (done.each session own now raw.0 end is_own is_now raw.1 is_end));
}

-- as many acts with places as without
few_one : (placed acts : List Act) → map unplaced placed ≡ map unplaced acts
    → length acts < 2 ^ 32 → length placed < 2 ^ 32
few_one placed acts same few =
    omega (arith, length-map placed unplaced, ap length same, length-map acts unplaced, few)

few_alike : (placed acts : List (List Act)) → map (map unplaced) placed ≡ map (map unplaced) acts
    → AllByRecursion (λ own. length own < 2 ^ 32) acts
    → AllByRecursion (λ own. length own < 2 ^ 32) placed
few_alike [] acts same few = tt
few_alike (own ∷ placed) [] same few = absurd cc
few_alike (own ∷ placed) (other ∷ acts) same few =
    let one : map unplaced own ≡ map unplaced other = cc in
    let rest : map (map unplaced) placed ≡ map (map unplaced) acts = cc in
    (few_one own other one few.0, few_alike placed acts rest few.1)

of_items : (acts : List (Vec Act Global))
    → AllByRecursion (λ own. length own < 2 ^ 32) (map (λ own. own.items) acts)
    → AllByRecursion (λ own. length own.items < 2 ^ 32) acts
of_items [] few = tt
of_items (own ∷ acts) few = (few.0, of_items acts few.1)

-- a `u32` counts the acts of each session, with places as without
pub all_few : (placed : List (Vec Act Global)) (acts : List (List Act))
    → map (map unplaced) (map (λ own. own.items) placed) ≡ map (map unplaced) acts
    → AllByRecursion (λ own. length own < 2 ^ 32) acts
    → All (λ own. length own.items < 2 ^ 32) placed
all_few placed acts same few =
    All-from_recursion (λ own. length own.items < 2 ^ 32) placed
    (of_items placed (few_alike (map (λ own. own.items) placed) acts same few))

-- there are acts with places of as many sessions as there are without
pub as_many : (placed acts : List (Vec Act Global))
    → map (map unplaced) (map (λ own. own.items) placed)
    ≡ map (map unplaced) (map (λ own. own.items) acts) → length placed ≡ length acts
as_many placed acts same =
    let first = length-map (map (λ own. own.items) placed) (map unplaced) in
    let second = length-map (map (λ own. own.items) acts) (map unplaced) in
    omega (
      arith,
      length-map placed (λ own. own.items),
      length-map acts (λ own. own.items),
      first,
      second,
      ap length same,
    )

-- counts that are taken of inputs are those of the inputs' type
pub counts_of : {S X : Type 0} (faults : S → ℕ) (f : X → ObjectsValue) (input : X → S)
    → ((x : X) → (f x).input_faults ≡ faults (input x)) → (all : List X)
    → AreCounts faults (map f all)
counts_of faults f input same all session own is =
    let (x, at, one) = mapped_at f all session own is in
    (input x, ap (λ (o : ObjectsValue). o.input_faults) (sym one) ∙ same x)

-- sessions that did so and whose journal was kept have ended
pub ended : {S : Type 0} → PlacesLaw → (faults : S → ℕ) (tell : Teller) (limits : Limits) (sets others : List (List ScreenValue)) (run : RunWords)
    (before after : PortsValue) (objects objects_after : List ObjectsValue) (acts : List (List Act))
    (ends : List End) (text : List ℕ) (n : ℕ)
    → HaveDone limits others objects objects_after acts ends → AreCounts faults objects_after
    → ((session : ℕ) → session < length objects → set_of others session ≡ set_of sets session)
    → (n ≡ 8) ⊎ HasKept tell limits run before after acts ends objects_after text n
    → (n ≡ 8) ⊎ HasEnded faults tell limits sets run before after objects text n
ended law faults tell limits sets others run before after objects objects_after acts ends text n done
    counts sets_are
    (inl memory) = inl memory
ended law faults tell limits sets others run before after objects objects_after acts ends text n done
    counts sets_are
    (inr own) = inr (record {
      acts = own.placed;
      lines = own.lines;
      ends = ends;
      objects_after = objects_after;
      done = done_alike law limits sets others objects objects_after own.placed acts ends own.alike
          sets_are done;
      counts = counts;
      legal = own.legal;
      finished = own.finished;
    })

-- what was done with these objects was done with those that they are
pub done_before : (limits : Limits) (sets : List (List ScreenValue))
    (before others after : List ObjectsValue) (acts : List (List Act)) (ends : List End)
    → others ≡ before → HaveDone limits sets others after acts ends
    → HaveDone limits sets before after acts ends
done_before limits sets before others after acts ends same done =
    subst (λ (all : List ObjectsValue). HaveDone limits sets all after acts ends) same done
