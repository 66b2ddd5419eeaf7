-- Rows taken one after another: those of whole sessions may all follow, and leave these sessions.
use Rattle.std.proofs.Common.{◌≡◌, ℕ, ◌+◌, List, [], ◌∷◌, ◌++◌}
use Rattle.std.proofs.Common.{length, refl, sym, ap, ◌∙◌, arith, map, subst, append_assoc}
use Rattle.std.specs.List.{flat_map, enumerate_from, All}
use Rattle.std.proofs.lemmas.List.{append-nil, map-append, length_push}
use Rattle.std.proofs.lemmas.List.Elements.{All-head, All-tail}
use Rattle.risk_journal.specs.Reading.{Taken, with_act, with_row}
use Rattle.risk_journal.specs.Reading.{with_rows, MayAllFollow}
use Rattle.risk_journal.specs.Rows.{session_rows}
use Rattle.risk_journal.specs.JournalGrammar.{IsNoEnd, HasEnded}
use Rattle.risk_journal.specs.declared.acts.Act.{Act}
use Rattle.risk_journal.specs.declared.acts.Act.TheVariants.{Post, Read, Sent, Refused, Noted}
use Rattle.risk_journal.specs.declared.acts.Act.TheVariants.{Ended}
use Rattle.risk_journal.specs.declared.rows.Row.{Row}
use Rattle.risk_journal.specs.declared.rows.Row.TheVariants.{OfSession}

pub with_rows-append : (taken : Taken) (rows more : List Row)
    → with_rows taken (rows ++ more) ≡ with_rows (with_rows taken rows) more
with_rows-append taken [] more = refl
with_rows-append taken (row ∷ rows) more = with_rows-append (with_row taken row) rows more

pub follow_both : (taken : Taken) (rows more : List Row) → MayAllFollow taken rows
    → MayAllFollow (with_rows taken rows) more → MayAllFollow taken (rows ++ more)
follow_both taken [] more first second = second
follow_both taken (row ∷ rows) more first second =
    (first.0, follow_both (with_row taken row) rows more first.1 second)

pub follow_later : (taken : Taken) (rows more : List Row) → MayAllFollow taken (rows ++ more)
    → MayAllFollow (with_rows taken rows) more
follow_later taken [] more all = all
follow_later taken (row ∷ rows) more all =
    follow_later (with_row taken row) rows more all.1

-- acts that don't end a session
act_goes_on : (taken : Taken) (act : Act) → IsNoEnd act
    → with_act taken act ≡ record taken { begun = taken.begun ++ act ∷ [] }
act_goes_on taken (Post tree index value) h = refl
act_goes_on taken (Read tree stamp place value) h = refl
act_goes_on taken (Sent frame) h = refl
act_goes_on taken (Refused frame code first second) h = refl
act_goes_on taken (Noted frame code first second) h = refl
act_goes_on taken (Ended end) h = absurd h

-- the acts of a session so far
abbrev pub in_session : List (List Act) → List Act → Taken
in_session ended begun = record { ended = ended; begun = begun; trees = [] }

-- the rows may follow, and leave this
pub record Leads (from : Taken) (rows : List Row) (to : Taken) : Type 0 where
  pub follow : MayAllFollow from rows
  pub left : with_rows from rows ≡ to

pub leads_on : (from : Taken) (rows : List Row) (next : Taken) (more : List Row) (to : Taken)
    → Leads from rows next → Leads next more to → Leads from (rows ++ more) to
leads_on from rows next more to first second =
    let P : Taken → Type 0 = λ taken. MayAllFollow taken more in
    record {
      follow = follow_both from rows more first.follow (subst P (sym first.left) second.follow);
      left = with_rows-append from rows more
          ∙ ap (λ taken. with_rows taken more) first.left ∙ second.left;
    }

pub leads_same : (from : Taken) (rows : List Row) (to other : Taken) → to ≡ other
    → Leads from rows to → Leads from rows other
leads_same from rows to other e leads = record { follow = leads.follow; left = leads.left ∙ e }

acts_lead : (ended : List (List Act)) (begun acts : List Act) → All IsNoEnd acts
    → Leads (in_session ended begun) (map (OfSession (length ended)) acts)
    (in_session ended (begun ++ acts))
acts_lead ended begun [] none = record {
  follow = tt;
  left = ap (in_session ended) (sym (append-nil begun));
}
acts_lead ended begun (act ∷ acts) none =
    let on = act_goes_on (in_session ended begun) act (All-head IsNoEnd act acts none) in
    let later = acts_lead ended (begun ++ act ∷ []) acts (All-tail IsNoEnd act acts none) in
    let P : Taken → Type 0 = λ taken. MayAllFollow taken (map (OfSession (length ended)) acts) in
    record {
      follow = ((refl, refl), subst P (sym on) later.follow);
      left = ap (λ taken. with_rows taken (map (OfSession (length ended)) acts)) on
          ∙ later.left ∙ ap (in_session ended) (append_assoc begun (act ∷ []) acts);
    }

session_leads : (ended : List (List Act)) (acts : List Act) → HasEnded acts
    → Leads (in_session ended []) (map (OfSession (length ended)) acts)
    (in_session (ended ++ acts ∷ []) [])
session_leads ended acts h =
    let rows = OfSession (length ended) in
    let front = acts_lead ended [] h.earlier h.only in
    let last : Leads (in_session ended h.earlier) (rows (Ended h.end) ∷ [])
    (in_session (ended ++ (h.earlier ++ Ended h.end ∷ []) ∷ []) []) =
    record { follow = ((refl, refl), tt); left = refl } in
    let both = leads_on (in_session ended []) (map rows h.earlier) (in_session ended h.earlier)
    (rows (Ended h.end) ∷ []) (in_session (ended ++ (h.earlier ++ Ended h.end ∷ []) ∷ []) [])
    front last in
    let P : List Act → Type 0 = λ own. Leads (in_session ended []) (map rows own)
    (in_session (ended ++ own ∷ []) []) in
    let Q : List Row → Type 0 = λ own. Leads (in_session ended []) own
    (in_session (ended ++ (h.earlier ++ Ended h.end ∷ []) ∷ []) []) in
    subst P (sym h.last) (subst Q (sym (map-append rows h.earlier (Ended h.end ∷ []))) both)

-- whole sessions, one after another
pub sessions_lead : (ended sessions : List (List Act)) (n : ℕ) → n ≡ length ended
    → All HasEnded sessions
    → Leads (in_session ended []) (flat_map session_rows (enumerate_from n sessions))
    (in_session (ended ++ sessions) [])
sessions_lead ended [] n e all = record {
  follow = tt;
  left = ap (λ own. in_session own []) (sym (append-nil ended));
}
sessions_lead ended (acts ∷ sessions) n e all =
    let one = session_leads ended acts (All-head HasEnded acts sessions all) in
    let P : ℕ → Type 0 = λ number. Leads (in_session ended []) (map (OfSession number) acts)
    (in_session (ended ++ acts ∷ []) []) in
    let next : n + 1 ≡ length (ended ++ acts ∷ []) = omega (arith, length_push ended acts) in
    let later = sessions_lead (ended ++ acts ∷ []) sessions (n + 1) next
    (All-tail HasEnded acts sessions all) in
    leads_same _ _ _ _ (ap (λ own. in_session own []) (append_assoc ended (acts ∷ []) sessions))
    (leads_on _ _ _ _ _ (subst P (sym e) one) later)
