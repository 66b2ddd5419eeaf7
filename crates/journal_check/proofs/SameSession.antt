-- The acts of a run over the answers of a journal's reads, and those of the session's input and of the
-- journal's reads: where one differs first from the journal's, so does the other.
use Rattle.std.proofs.Common.{◌≡◌, ◌⊎◌, inl, inr, ⊎_elim, ℕ, zero, suc, ◌+◌, ◌≤◌, ◌<◌}
use Rattle.std.proofs.Common.{List, [], ◌∷◌, ◌++◌, length, map, take, drop, get_or, length-append, append_assoc}
use Rattle.std.proofs.Common.{refl, sym, ap, ◌∙◌, subst, arith}
use Rattle.std.proofs.lemmas.Bool.{cases_lt}
use Rattle.std.proofs.lemmas.List.{map-append, length-map, take-append-drop, take-map}
use Rattle.std.proofs.lemmas.List.{take_all, take-append-le}
use Rattle.risk_journal.specs.ActLists.{SeenAt, reads_of, unplaced}
use Rattle.risk_journal.specs.JournalGrammar.{HasEnded}
use Rattle.risk_journal.specs.declared.acts.Act.{Act}
use Rattle.risk_journal.specs.declared.acts.Act.TheVariants.{Post, Read, Sent, Refused, Noted, Ended}
use Rattle.risk_journal.proofs.PlacedActs.{reads_of-placed, reads_of-append}
use Rattle.admit_core.specs.Tapes.{next_read, read_act}
use Rattle.screen_kit.specs.Screens.{ScreenValue}
use Rattle.session_engine.specs.Follows.{session_with}
use Rattle.session_engine.specs.Parting.{PartAtRead, AreAlikeOrPart, first_reads}
use Rattle.session_engine.specs.Session.{LimitsValue, SessionValue, opening}
use Rattle.session_engine.proofs.GrownActs.{AreNoEnds, frames_grow}
use Rattle.session_engine.proofs.MovedTapes.{reads_made, seen_unplaced, unset, unread-snoc}
use Rattle.session_engine.proofs.PartedSessions.{frames_part}
use Rattle.session_engine.proofs.PartedTapes.{parts_append}
use Rattle.session_engine.proofs.PlacedFollows.{acts_alike, exact_acts, sees_no_place, takes_in_order}
use Rattle.journal_check.specs.SameActs.{AreSame, DifferFirst}
use Rattle.journal_check.specs.SessionActs.{IsSessionOf, IsOwnSession, DiffersAt}
use Rattle.journal_check.proofs.FirstApart.{SeeAlike, apart_too}

-- the first of reads without their places are the first without theirs
first_reads-unplaced : (count : ℕ) (reads : List SeenAt)
    → map seen_unplaced (first_reads count reads) ≡ first_reads count (map seen_unplaced reads)
first_reads-unplaced zero reads = refl
first_reads-unplaced (suc count) [] =
    ap (λ more. next_read [] ∷ more) (first_reads-unplaced count [])
first_reads-unplaced (suc count) (seen ∷ reads) =
    ap (λ more. seen_unplaced seen ∷ more) (first_reads-unplaced count reads)

-- what comes first of reads, behind the same ones
same_next : (count : ℕ) (front rest rest_other : List SeenAt) (seen seen_other : SeenAt)
    → front ++ seen ∷ rest ≡ first_reads count (front ++ seen_other ∷ rest_other)
    → seen ≡ seen_other
same_next zero [] rest rest_other seen seen_other same = absurd (omega (arith, ap length same))
same_next zero (first ∷ front) rest rest_other seen seen_other same =
    absurd (omega (arith, ap length same))
same_next (suc count) [] rest rest_other seen seen_other same =
    ap (λ list. get_or list 0 seen) same
same_next (suc count) (first ∷ front) rest rest_other seen seen_other same =
    same_next count front rest rest_other seen seen_other (ap (drop 1) same)

-- as many of the first reads are the same
same_front : (count : ℕ) (front front_other rest rest_other : List SeenAt)
    → front ++ rest ≡ first_reads count (front_other ++ rest_other)
    → length front ≡ length front_other → front ≡ front_other
same_front count [] [] rest rest_other same long = refl
same_front count [] (other ∷ front_other) rest rest_other same long =
    absurd (omega (arith, long))
same_front count (seen ∷ front) [] rest rest_other same long = absurd (omega (arith, long))
same_front zero (seen ∷ front) (other ∷ front_other) rest rest_other same long =
    absurd (omega (arith, ap length same))
same_front (suc count) (seen ∷ front) (other ∷ front_other) rest rest_other same long =
    ap (λ first. first ∷ front) (ap (λ list. get_or list 0 seen) same)
    ∙ ap (λ more. other ∷ more)
    (same_front count front front_other rest rest_other (ap (drop 1) same) (omega (arith, long)))

-- an end among acts that have none
no_end_there : (acts front rest : List Act) (end : _) → AreNoEnds acts
    → map unplaced acts ≡ front ++ Ended end ∷ rest → ⊥
no_end_there [] [] rest end none is = absurd cc
no_end_there [] (other ∷ front) rest end none is = absurd cc
no_end_there (Ended own ∷ acts) front rest end none is = absurd none.0
no_end_there (Post t i v ∷ acts) [] rest end none is = absurd cc
no_end_there (Read t s p v ∷ acts) [] rest end none is = absurd cc
no_end_there (Sent frame ∷ acts) [] rest end none is = absurd cc
no_end_there (Refused frame code one two ∷ acts) [] rest end none is = absurd cc
no_end_there (Noted frame code one two ∷ acts) [] rest end none is = absurd cc
no_end_there (act ∷ acts) (other ∷ front) rest end none is =
    no_end_there acts front rest end none.1 (ap (drop 1) is)

append_one : (one : List Act) (act : Act) (more : List Act)
    → (one ++ act ∷ []) ++ more ≡ one ++ act ∷ more
append_one one act more = append_assoc one (act ∷ []) more

module _ (limits : LimitsValue) (screens : List ScreenValue) (bytes : List ℕ)
    (acts told : List Act) (own : IsOwnSession limits screens bytes acts) where
  abbrev mine : List Act
  mine = (session_with limits screens (reads_of acts) own.frames).acts

  abbrev theirs : List Act
  theirs = (session_with limits screens (reads_of told) own.frames).acts

  abbrev last : List Act
  last = Ended own.end ∷ []

  abbrev right : List Act
  right = theirs ++ last

  is_right : IsSessionOf limits screens bytes (reads_of told) right
  is_right = record {
    frames = own.frames;
    next = own.next;
    end = own.end;
    split = own.split;
    end_is = own.end_is;
    acts_are = refl;
  }

  mine_unplaced : (session_with limits screens (map seen_unplaced (reads_of acts)) own.frames).acts
      ++ last ≡ map unplaced acts
  mine_unplaced =
      ap (λ x. x ++ last) (sees_no_place limits screens (reads_of acts) own.frames)
      ∙ sym (map-append unplaced mine last)
      ∙ ap (map unplaced) (sym own.acts_are)

  theirs_unplaced : (session_with limits screens (map seen_unplaced (reads_of told))
      own.frames).acts ++ last ≡ map unplaced right
  theirs_unplaced =
      ap (λ x. x ++ last) (sees_no_place limits screens (reads_of told) own.frames)
      ∙ sym (map-append unplaced theirs last)

  -- without places both go alike, or part at a read
  either : (map unplaced right ≡ map unplaced acts)
      ⊎ PartAtRead (map unplaced acts) (map unplaced right)
  either = from (frames_part limits own.frames
      (opening limits screens (map seen_unplaced (reads_of acts)))
      (map seen_unplaced (reads_of told)))
    where
      from : AreAlikeOrPart
          (session_with limits screens (map seen_unplaced (reads_of acts)) own.frames)
          (session_with limits screens (map seen_unplaced (reads_of told)) own.frames)
          → (map unplaced right ≡ map unplaced acts)
          ⊎ PartAtRead (map unplaced acts) (map unplaced right)
      from (inl (reads, same)) =
          inl (sym theirs_unplaced ∙ ap (λ (s : SessionValue). s.acts ++ last) same
          ∙ mine_unplaced)
      from (inr parts) =
          inr (subst (λ x. PartAtRead x (map unplaced right)) mine_unplaced
          (subst (PartAtRead (_ ++ last)) theirs_unplaced (parts_append _ _ last last parts)))

  -- the reads are the journal's in order, with zeros past the last
  in_order : reads_of right ≡ first_reads (reads_made theirs) (reads_of told)
  in_order =
      unread-snoc theirs (Ended own.end) refl
      ∙ takes_in_order limits screens (reads_of told) own.frames

  ordered : SeeAlike (map unplaced right) (map unplaced told)
  ordered front rest rest_other tree seen seen_other is also =
      same_next (reads_made theirs) (reads_of front) (reads_of rest) (reads_of rest_other) seen
      seen_other
      (sym (reads_of-append front (read_act tree seen ∷ rest)) ∙ sym (ap reads_of is)
      ∙ reads_of-placed unset right ∙ ap (map seen_unplaced) in_order
      ∙ first_reads-unplaced (reads_made theirs) (reads_of told)
      ∙ ap (first_reads (reads_made theirs))
      (sym (reads_of-placed unset told) ∙ ap reads_of also
      ∙ reads_of-append front (read_act tree seen_other ∷ rest_other)))

  -- what is the same so far but for places is the same
  exactly : (index : ℕ) → take index (map unplaced right) ≡ take index (map unplaced told)
      → take index told ≡ take index right
  exactly index same =
      let alike : map unplaced (take index right) ≡ map unplaced (take index told) =
      sym (take-map unplaced index right) ∙ same ∙ take-map unplaced index told in
      let long : length (reads_of (take index right)) ≡ length (reads_of (take index told)) =
      sym (length-map (reads_of (take index right)) seen_unplaced)
      ∙ ap length (sym (reads_of-placed unset (take index right)) ∙ ap reads_of alike
      ∙ reads_of-placed unset (take index told))
      ∙ length-map (reads_of (take index told)) seen_unplaced in
      let whole = sym (reads_of-append (take index right) (drop index right))
      ∙ ap reads_of (take-append-drop index right) ∙ in_order
      ∙ ap (first_reads (reads_made theirs))
      (ap reads_of (sym (take-append-drop index told))
      ∙ reads_of-append (take index told) (drop index told)) in
      sym (exact_acts (take index right) (take index told) alike
      (same_front (reads_made theirs) (reads_of (take index right)) (reads_of (take index told))
      (reads_of (drop index right)) (reads_of (drop index told)) whole long))

  -- no run goes on behind an end
  pub differs_inside : (index : ℕ) → HasEnded told → DifferFirst acts told index
      → index < length told
  differs_inside index ended differ =
      ⊎_elim (λ (less : index < length told). less)
      (λ (over : length told ≤ index). absurd (beyond over)) (cases_lt index (length told))
    where
      told_is : map unplaced told ≡ map unplaced ended.earlier ++ Ended ended.end ∷ []
      told_is = ap (map unplaced) ended.last
          ∙ map-append unplaced ended.earlier (Ended ended.end ∷ [])

      no_ends : AreNoEnds mine
      no_ends =
          let grown = frames_grow limits own.frames (opening limits screens (reads_of acts)) in
          subst AreNoEnds (sym grown.is) grown.no_ends

      beyond : length told ≤ index → ⊥
      beyond over =
          ⊎_elim (λ (short : length mine < index). all_of short)
          (λ (within : index ≤ length mine). inside within) (cases_lt (length mine) index)
        where
          told_all : map unplaced (take index told) ≡ map unplaced told
          told_all = ap (map unplaced) (take_all index told over)

          long : length acts ≡ length mine + 1
          long = ap length own.acts_are ∙ length-append mine last

          all_of : length mine < index → ⊥
          all_of short = differ.apart
              (ap (map unplaced) (take_all (index + 1) acts (omega (arith, long, short))
              ∙ sym (take_all index acts (omega (arith, long, short))))
              ∙ differ.before
              ∙ ap (map unplaced) (take_all index told over
              ∙ sym (take_all (index + 1) told (omega (arith, over)))))

          inside : index ≤ length mine → ⊥
          inside within =
              no_end_there mine (map unplaced ended.earlier) (map unplaced (drop index mine))
              ended.end no_ends
              (ap (map unplaced) (sym (take-append-drop index mine))
              ∙ map-append unplaced (take index mine) (drop index mine)
              ∙ ap (λ x. map unplaced x ++ map unplaced (drop index mine))
              (sym (take-append-le index mine last within)
              ∙ ap (take index) (sym own.acts_are))
              ∙ ap (λ x. x ++ map unplaced (drop index mine)) (differ.before ∙ told_all ∙ told_is)
              ∙ append_one (map unplaced ended.earlier) (Ended ended.end)
              (map unplaced (drop index mine)))

  -- Where the run differs first from the journal's acts, these differ first from the session's.
  pub differs_too : (index : ℕ) → HasEnded told
      → SeeAlike (map unplaced acts) (map unplaced told) → DifferFirst acts told index
      → DiffersAt limits screens bytes told index
  differs_too index ended answered differ =
      let too = apart_too (map unplaced acts) (map unplaced right) (map unplaced told) index either
      answered ordered
      (take-map unplaced index acts ∙ differ.before ∙ sym (take-map unplaced index told))
      (λ same. differ.apart (sym (take-map unplaced (index + 1) acts) ∙ same
      ∙ take-map unplaced (index + 1) told)) in
      record {
        right = right;
        is = is_right;
        inside = differs_inside index ended differ;
        before = exactly index too.before;
        apart = λ same. too.apart
            (take-map unplaced (index + 1) right ∙ ap (map unplaced) (sym same)
            ∙ sym (take-map unplaced (index + 1) told));
      }

  -- Where they are the same but for places, the journal's acts are the session's.
  pub same_too : AreSame acts told → IsOwnSession limits screens bytes told
  same_too same = record {
    frames = own.frames;
    next = own.next;
    end = own.end;
    split = own.split;
    end_is = own.end_is;
    acts_are = acts_alike limits screens acts told (sym same) own.frames own.end own.acts_are;
  }
