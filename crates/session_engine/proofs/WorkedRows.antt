-- Worked rows, computed by the definitions: orders at a limit and above it, requests, what reports
-- make of them, and each kind of frame that is refused or noted.
use Rattle.std.proofs.Common.{◌≡◌, ℕ, List, [], ◌∷◌, ◌++◌, refl, codes, length, decimal}
use Rattle.std.specs.Prelude.{Some, None, true, false, drop}
use Rattle.std.specs.Fmt.{digits}
use Rattle.fix_fields.specs.Fields.{FieldValue, field, soh}
use Rattle.fix_fields.specs.Messages.{message_text}
use Rattle.fix_fields.specs.Frames.{FrameValue}
use Rattle.fix_fields.specs.declared.frame.Found.TheVariants as found
use Rattle.risk_journal.specs.ActLists.{SeenAt}
use Rattle.risk_journal.specs.JournalText.{journal_text}
use Rattle.risk_journal.specs.declared.acts.Act.{Act}
use Rattle.risk_journal.specs.declared.acts.Act.TheVariants.{Post, Read, Sent, Refused, Noted}
use Rattle.risk_journal.specs.declared.acts.Act.TheVariants.{Ended}
use Rattle.risk_journal.specs.declared.acts.End.TheVariants as ending
use Rattle.session_engine.specs.Follows.{EndsBy}
use Rattle.session_engine.specs.Session.{LimitsValue, SessionValue, opening, after_frames}

-- limits with one account and two symbols: the firm's limit, and the first symbol's
abbrev limits_of : ℕ → ℕ → LimitsValue
limits_of firm symbol = record {
  firm = firm;
  accounts = record { name = codes "ACC"; limit = 100000; net = false } ∷ [];
  symbols =
      record { name = codes "XYZ"; limit = symbol; low = 10000; high = 120000; size = 100000 }
      ∷ record { name = codes "ABC"; limit = 100000; low = 10000; high = 120000; size = 100000 }
      ∷ [];
  trip = None;
  quota = 50000;
  repeat = 0;
  off = [];
}

-- a firm's limit that an order of 100 at 10.00 just reaches, and one that it doesn't
abbrev tight : LimitsValue
tight = limits_of 1000 100000

abbrev roomy : LimitsValue
roomy = limits_of 5000 100000

-- the same with two posts in each tree
abbrev two_posts : LimitsValue
two_posts = record roomy { quota = 2 }

-- a message of a kind and a sender, with what stands behind its header
abbrev message : List ℕ → List ℕ → List FieldValue → List FieldValue
message kind sender own =
    field 35 kind ∷ field 49 sender ∷ field 56 (codes "GATE") ∷ field 34 (codes "1")
    ∷ field 52 (codes "20240102-10:00:00") ∷ own

-- what stands behind the header of an order: an id, a side, a quantity and a price
abbrev asked : List ℕ → List ℕ → List ℕ → List ℕ → List FieldValue
asked id side quantity price =
    field 11 id ∷ field 1 (codes "ACC") ∷ field 55 (codes "XYZ") ∷ field 54 side
    ∷ field 38 quantity ∷ field 40 (codes "2") ∷ field 44 price
    ∷ field 60 (codes "20240102-10:00:00") ∷ []

abbrev order : List ℕ → List ℕ → List ℕ → List ℕ → List FieldValue
order id side quantity price = message (codes "D") (codes "C1") (asked id side quantity price)

abbrev cancel : List ℕ → List ℕ → List FieldValue
cancel id orig = message (codes "F") (codes "C1") (field 11 id ∷ field 41 orig ∷ [])

-- a replace by so many at 10.00
abbrev replace : List ℕ → List ℕ → List ℕ → List FieldValue
replace id orig quantity =
    message (codes "G") (codes "C1")
    (field 11 id ∷ field 41 orig ∷ field 55 (codes "XYZ") ∷ field 54 (codes "1")
    ∷ field 38 quantity ∷ field 40 (codes "2") ∷ field 44 (codes "10.00") ∷ [])

-- a report of an ExecType (150)
abbrev report : List ℕ → List ℕ → List FieldValue → List FieldValue
report id exec own = message (codes "8") (codes "VENUE") (field 11 id ∷ field 150 exec ∷ own)

abbrev trade : List ℕ → List ℕ → List ℕ → List FieldValue
trade id quantity price =
    report id (codes "F") (field 32 quantity ∷ field 31 price ∷ [])

abbrev cancel_reject : List ℕ → List FieldValue
cancel_reject id = message (codes "9") (codes "VENUE") (field 11 id ∷ [])

-- the frames of these messages: their places decide nothing
abbrev frames_of : List (List FieldValue) → List FrameValue
frames_of [] = []
frames_of (fields ∷ more) =
    record { place = 0; end = 136; fields = Some fields } ∷ frames_of more

-- the session after these messages
abbrev after : LimitsValue → List SeenAt → List (List FieldValue) → SessionValue
after limits reads messages = after_frames limits (opening limits [] reads) (frames_of messages)

-- a root with this stamp and this value
abbrev root : ℕ → ℕ → SeenAt
root stamp value = record { stamp = stamp; place = stamp; value = value }

-- nobody has halted, and three roots with this stamp and this value
abbrev roots : ℕ → ℕ → List SeenAt
roots stamp value = root 0 0 ∷ root stamp value ∷ root stamp value ∷ root stamp value ∷ []

-- the posts and reads of an order in three trees, with one index and one value in each
abbrev posts : ℕ → ℕ → List Act
posts index value = Post 0 index value ∷ Post 1 index value ∷ Post 2 index value ∷ []

abbrev reads : ℕ → ℕ → List Act
reads stamp value =
    Read 4 0 0 0 ∷ Read 0 stamp stamp value ∷ Read 1 stamp stamp value
    ∷ Read 2 stamp stamp value ∷ []

abbrev tie : List FieldValue
tie = order (codes "a1") (codes "1") (codes "100") (codes "10.0000")

-- an order at the firm's limit is sent
acts_of_tie : (after tight (roots 1 1000) (tie ∷ [])).acts
    ≡ posts 1 1000 ++ reads 1 1000 ++ Sent 0 ∷ []
acts_of_tie = refl

abbrev expected : List FieldValue
expected =
    field 35 (codes "D") ∷ field 49 (codes "GATE") ∷ field 56 (codes "VENUE") ∷ field 34
    (codes "1") ∷ field 52 (codes "20240102-10:00:00")
    ∷ asked (codes "a1") (codes "1") (codes "100") (codes "10.0000")

venue_of_tie : (after tight (roots 1 1000) (tie ∷ [])).venue ≡ message_text expected ∷ []
unfolding digits
venue_of_tie = refl

-- the firm's tree, the account's, both symbols', and the halt tree
journal_of_tie : journal_text
    ((posts 1 1000 ++ reads 1 1000 ++ Sent 0 ∷ Ended ending.Whole ∷ []) ∷ [])
    ((record { session = 0; index = 1; value = 1000 } ∷ [])
    ∷ (record { session = 0; index = 1; value = 1000 } ∷ [])
    ∷ (record { session = 0; index = 1; value = 1000 } ∷ []) ∷ [])
    ≡ codes "kind,session,a,b,c,d\npost,0,0,1,1000,\npost,0,1,1,1000,\npost,0,2,1,1000,\n"
    ++ codes "read,0,4,0,0,0\nread,0,0,1,1,1000\nread,0,1,1,1,1000\nread,0,2,1,1,1000\n"
    ++ codes "sent,0,0,,,\nended,0,0,,,\nline,0,0,1,1,1000\nline,0,1,1,1,1000\n"
    ++ codes "line,0,2,1,1,1000\n"
unfolding digits
journal_of_tie = refl

-- the whole bytes of the order passed on, with its length and its checksum
text_of_tie : message_text expected ≡ codes "8=FIX.4.4" ++ soh ∷ codes "9=116" ++ soh ∷ codes "35=D"
    ++ soh ∷ codes "49=GATE" ++ soh ∷ codes "56=VENUE" ++ soh ∷ codes "34=1" ++ soh
    ∷ codes "52=20240102-10:00:00" ++ soh ∷ codes "11=a1" ++ soh ∷ codes "1=ACC" ++ soh ∷ codes
    "55=XYZ" ++ soh ∷ codes "54=1" ++ soh ∷ codes "38=100" ++ soh ∷ codes "40=2" ++ soh
    ∷ codes "44=10.0000" ++ soh ∷ codes "60=20240102-10:00:00" ++ soh ∷ codes "10=193" ++ soh ∷ []
unfolding digits
text_of_tie = refl

-- an order above the firm's limit takes its posts back and is refused
abbrev after_dearer : SessionValue
after_dearer = after tight (roots 1 1001)
    (order (codes "a1") (codes "1") (codes "100") (codes "10.0001") ∷ [])

acts_of_dearer : after_dearer.acts
    ≡ posts 1 1001 ++ reads 1 1001 ++ posts 2 0 ++ Refused 0 1 0 0 ∷ []
acts_of_dearer = refl

book_of_dearer : after_dearer.book.orders ≡ []
book_of_dearer = refl

client_of_dearer : after_dearer.client ≡
    (codes "8=FIX.4.4" ++ soh ∷ codes "9=130" ++ soh ∷ codes "35=8" ++ soh ∷ codes "49=GATE" ++ soh
    ∷ codes "56=C1" ++ soh ∷ codes "34=1" ++ soh
    ∷ codes "52=20240102-10:00:00" ++ soh ∷ codes "37=NONE" ++ soh ∷ codes "11=a1" ++ soh ∷ codes
    "17=G1" ++ soh ∷ codes "150=8" ++ soh ∷ codes "39=8" ++ soh ∷ codes "103=3" ++ soh
    ∷ codes "1=ACC" ++ soh ∷ codes "55=XYZ" ++ soh ∷ codes "54=1" ++ soh ∷ codes "38=100" ++ soh ∷
    codes "151=0" ++ soh ∷ codes "14=0" ++ soh ∷ codes "6=0" ++ soh
    ∷ codes "58=FIRM" ++ soh ∷ codes "10=038" ++ soh ∷ []) ∷ []
unfolding digits
client_of_dearer = refl

-- an order beyond what a leaf can hold is refused with no post
acts_of_huge : (after tight []
    (order (codes "a1") (codes "1") (codes "1000000000") (codes "999999.9999") ∷ [])).acts
    ≡ Refused 0 6 0 0 ∷ []
acts_of_huge = refl

-- nothing was done before the first frame
acts_of_none : (after tight [] []).acts ≡ []
acts_of_none = refl

-- a sale is reserved at the upper collar price; a trade below it lowers what is posted, and one
-- above it is noted and changes nothing, as is one of no order
abbrev sale : List FieldValue
sale = order (codes "a1") (codes "2") (codes "100") (codes "9.00")

abbrev after_sale : SessionValue
after_sale = after roomy (roots 1 1200)
    (sale ∷ trade (codes "a1") (codes "40") (codes "9.50")
    ∷ trade (codes "a1") (codes "10") (codes "12.0001")
    ∷ trade (codes "zz") (codes "10") (codes "9.00") ∷ [])

acts_of_sale : after_sale.acts
    ≡ posts 1 1200 ++ reads 1 1200 ++ Sent 0 ∷ posts 2 1100 ++ Noted 2 4 0 0 ∷ Noted 3 3 0 0 ∷ []
acts_of_sale = refl

-- each of the three reports is passed on
client_of_sale : length after_sale.client ≡ 3
client_of_sale = refl

-- a cancel is sent with no post and no read, and a second one finds it pending
abbrev after_cancel : SessionValue
after_cancel = after roomy (roots 1 1000)
    (tie ∷ cancel (codes "c1") (codes "a1") ∷ cancel (codes "c2") (codes "a1")
    ∷ report (codes "c1") (codes "4") [] ∷ [])

acts_of_cancel : after_cancel.acts
    ≡ posts 1 1000 ++ reads 1 1000 ++ Sent 0 ∷ Sent 1 ∷ Refused 2 13 0 0 ∷ posts 2 0
acts_of_cancel = refl

venue_of_cancel : length after_cancel.venue ≡ 2
venue_of_cancel = refl

-- a replace above what was posted is asked about, and what it posted is taken back as the venue
-- rejects it
acts_of_rejected : (after roomy (roots 1 1000 ++ roots 2 1500)
    (tie ∷ replace (codes "b1") (codes "a1") (codes "150") ∷ cancel_reject (codes "b1") ∷ [])).acts
    ≡ posts 1 1000 ++ reads 1 1000 ++ Sent 0 ∷ posts 2 1500 ++ reads 2 1500 ++ Sent 1
    ∷ posts 3 1000
acts_of_rejected = refl

-- a replace within what was posted is sent with no post and no read, and its values are posted once
-- the venue has replaced
acts_of_lowering : (after roomy (roots 1 1000)
    (tie ∷ replace (codes "b1") (codes "a1") (codes "80")
    ∷ report (codes "b1") (codes "5") [] ∷ [])).acts
    ≡ posts 1 1000 ++ reads 1 1000 ++ Sent 0 ∷ Sent 1 ∷ posts 2 800
acts_of_lowering = refl

-- an id is taken once its order is sent, and not as it is refused
acts_of_repeat : (after tight (roots 1 2000 ++ roots 3 1000)
    (order (codes "a1") (codes "1") (codes "200") (codes "10.00") ∷ tie ∷ tie ∷ [])).acts
    ≡ posts 1 2000 ++ reads 1 2000 ++ posts 2 0 ++ Refused 0 1 0 0
    ∷ posts 3 1000 ++ reads 3 1000 ++ Sent 1 ∷ Refused 2 7 0 0 ∷ []
acts_of_repeat = refl

-- where no post is left an order is refused with none, and what a report lowers is noted
acts_of_quota : (after two_posts (roots 1 1000)
    (tie ∷ trade (codes "a1") (codes "40") (codes "9.50")
    ∷ order (codes "a2") (codes "1") (codes "100") (codes "10.00")
    ∷ trade (codes "a1") (codes "10") (codes "9.00") ∷ [])).acts
    ≡ posts 1 1000 ++ reads 1 1000 ++ Sent 0 ∷ posts 2 980 ++ Refused 2 5 0 0
    ∷ Noted 3 6 0 0 ∷ []
acts_of_quota = refl

-- a replace of no order
abbrev unknown_fields : List FieldValue
unknown_fields =
    field 35 (codes "9") ∷ field 49 (codes "GATE") ∷ field 56 (codes "C1") ∷ field 34 (codes "1")
    ∷ field 52 (codes "20240102-10:00:00") ∷ field 37 (codes "NONE") ∷ field 11 (codes "b1")
    ∷ field 41 (codes "zz") ∷ field 39 (codes "8") ∷ field 434 (codes "2") ∷ field 102 (codes "1")
    ∷ field 58 (codes "UNKNOWN") ∷ []

abbrev after_unknown : SessionValue
after_unknown = after roomy [] (replace (codes "b1") (codes "zz") (codes "150") ∷ [])

acts_of_unknown_order : after_unknown.acts ≡ Refused 0 11 0 0 ∷ []
acts_of_unknown_order = refl

client_of_unknown_order : after_unknown.client ≡ message_text unknown_fields ∷ []
unfolding digits
client_of_unknown_order = refl

-- a frame that isn't sound, between two that are: it is noted, and the numbers go on without it
abbrev after_garbled : SessionValue
after_garbled = after_frames roomy (opening roomy [] (roots 1 1000 ++ roots 2 2100))
    (record { place = 0; end = 136; fields = Some tie }
    ∷ record { place = 136; end = 272; fields = None }
    ∷ frames_of (order (codes "a3") (codes "1") (codes "100") (codes "11.00") ∷ []))

acts_of_garbled : after_garbled.acts
    ≡ posts 1 1000 ++ reads 1 1000 ++ Sent 0 ∷ Noted 1 1 0 0
    ∷ posts 2 2100 ++ reads 2 2100 ++ Sent 2 ∷ []
acts_of_garbled = refl

venue_of_garbled : length after_garbled.venue ≡ 2
venue_of_garbled = refl

client_of_garbled : after_garbled.client ≡ []
client_of_garbled = refl

-- an order without its Symbol (55), and one of another OrdType (40), get a Reject
abbrev numbered : List FieldValue → List FieldValue
numbered own =
    field 35 (codes "D") ∷ field 49 (codes "C1") ∷ field 56 (codes "GATE") ∷ field 34
    (codes "7") ∷ field 52 (codes "20240102-10:00:00") ∷ own

abbrev without_symbol : List FieldValue
without_symbol =
    numbered
    (field 11 (codes "a1") ∷ field 1 (codes "ACC") ∷ field 54 (codes "1") ∷ field 38 (codes "100")
    ∷ field 40 (codes "2") ∷ field 44 (codes "10.00") ∷ field 60 (codes "20240102-10:00:00") ∷ [])

abbrev of_another_type : List FieldValue
of_another_type =
    numbered
    (field 11 (codes "a1") ∷ field 1 (codes "ACC") ∷ field 55 (codes "XYZ") ∷ field 54 (codes "1")
    ∷ field 38 (codes "100") ∷ field 40 (codes "3") ∷ field 44 (codes "10.00")
    ∷ field 60 (codes "20240102-10:00:00") ∷ [])

abbrev reject_fields : ℕ → ℕ → List FieldValue
reject_fields tag reason =
    field 35 (codes "3") ∷ field 49 (codes "GATE") ∷ field 56 (codes "C1") ∷ field 34 (codes "1")
    ∷ field 52 (codes "20240102-10:00:00") ∷ field 45 (codes "7") ∷ field 371 (decimal tag)
    ∷ field 372 (codes "D") ∷ field 373 (decimal reason) ∷ []

acts_of_missing : (after roomy [] (without_symbol ∷ [])).acts ≡ Refused 0 16 55 1 ∷ []
acts_of_missing = refl

client_of_missing : (after roomy [] (without_symbol ∷ [])).client
    ≡ message_text (reject_fields 55 1) ∷ []
unfolding digits
client_of_missing = refl

acts_of_another : (after roomy [] (of_another_type ∷ [])).acts ≡ Refused 0 16 40 5 ∷ []
acts_of_another = refl

client_of_another : (after roomy [] (of_another_type ∷ [])).client
    ≡ message_text (reject_fields 40 5) ∷ []
unfolding digits
client_of_another = refl

-- a report without its SendingTime (52) gets a Reject in the venue's stream, with the time of no
-- message
abbrev bare_report : List FieldValue
bare_report =
    field 35 (codes "8") ∷ field 49 (codes "VENUE") ∷ field 56 (codes "GATE") ∷ field 34
    (codes "3") ∷ []

acts_of_report : (after roomy [] (bare_report ∷ [])).acts ≡ Noted 0 5 52 1 ∷ []
acts_of_report = refl

venue_of_report : (after roomy [] (bare_report ∷ [])).venue ≡ message_text
    (field 35 (codes "3") ∷ field 49 (codes "GATE") ∷ field 56 (codes "VENUE")
    ∷ field 34 (codes "1") ∷ field 52 (codes "19700101-00:00:00") ∷ field 45 (codes "3")
    ∷ field 371 (codes "52") ∷ field 372 (codes "8") ∷ field 373 (codes "1") ∷ []) ∷ []
unfolding digits
venue_of_report = refl

-- how sessions end
end_of_cut : EndsBy false (found.Cut 136) (ending.Cut 136)
end_of_cut = refl

end_of_long : EndsBy false (found.TooLong 0) (ending.TooLong 0)
end_of_long = refl

end_of_much : EndsBy true found.End (ending.TooLong 33554432)
end_of_much = refl

end_of_cut_much : EndsBy true (found.Cut 33554400) (ending.TooLong 33554400)
end_of_cut_much = refl

-- the acts of an order of 1 at 10.00 with this account and this symbol, where the first symbol's
-- limit is 0
abbrev acts_for : List ℕ → List ℕ → List SeenAt → List Act
acts_for account symbol seen = (after (limits_of 5000 0) seen
    (message (codes "D") (codes "C1")
    (field 11 (codes "a1") ∷ field 1 account ∷ field 55 symbol ∷ field 54 (codes "1")
    ∷ field 38 (codes "1") ∷ field 40 (codes "2") ∷ field 44 (codes "10.00") ∷ []) ∷ [])).acts

-- the smallest limit refuses the smallest order
acts_of_symbol : acts_for (codes "ACC") (codes "XYZ") (roots 1 10)
    ≡ posts 1 10 ++ reads 1 10 ++ posts 2 0 ++ Refused 0 3 0 0 ∷ []
acts_of_symbol = refl

-- and the other symbol has a tree of its own
acts_of_other : acts_for (codes "ACC") (codes "ABC") (roots 1 10)
    ≡ Post 0 1 10 ∷ Post 1 1 10 ∷ Post 3 1 10
    ∷ Read 4 0 0 0 ∷ Read 0 1 1 10 ∷ Read 1 1 1 10 ∷ Read 3 1 1 10 ∷ Sent 0 ∷ []
acts_of_other = refl

-- somebody has halted
acts_of_halted : acts_for (codes "ACC") (codes "ABC") (root 1 1 ∷ drop 1 (roots 1 10))
    ≡ Post 0 1 10 ∷ Post 1 1 10 ∷ Post 3 1 10
    ∷ Read 4 1 1 1 ∷ Read 0 1 1 10 ∷ Read 1 1 1 10 ∷ Read 3 1 1 10
    ∷ Post 0 2 0 ∷ Post 1 2 0 ∷ Post 3 2 0 ∷ Refused 0 4 0 0 ∷ []
acts_of_halted = refl

-- an unknown account comes before an unknown symbol
acts_of_unknown : acts_for (codes "ACD") (codes "XYW") [] ≡ Refused 0 8 0 0 ∷ []
acts_of_unknown = refl

acts_of_unknown_symbol : acts_for (codes "ACC") (codes "XYW") [] ≡ Refused 0 9 0 0 ∷ []
acts_of_unknown_symbol = refl

-- the limits of the tight firm, with a trip at so many refusals as Firm
abbrev tripping_at : ℕ → LimitsValue
tripping_at number = record tight { trip = Some number }

abbrev above : List ℕ → List FieldValue
above id = order id (codes "1") (codes "200") (codes "10.00")

-- the first refusal as Firm trips, after the old values are posted again; the next order reads it
acts_of_trip : (after (tripping_at 1) (roots 1 2000 ++ root 1 1 ∷ drop 1 (roots 3 10))
    (above (codes "a1") ∷ order (codes "a2") (codes "1") (codes "1") (codes "10.00") ∷ [])).acts
    ≡ posts 1 2000 ++ reads 1 2000 ++ posts 2 0 ++ Post 4 1 1 ∷ Refused 0 1 0 0
    ∷ posts 3 10 ++ Read 4 1 1 1 ∷ Read 0 3 3 10 ∷ Read 1 3 3 10 ∷ Read 2 3 3 10
    ∷ posts 4 0 ++ Refused 1 4 0 0 ∷ []
acts_of_trip = refl

-- whatever is read afterwards, no second trip follows
acts_of_one_trip : (after (tripping_at 1) (roots 1 2000 ++ roots 3 2000)
    (above (codes "a1") ∷ above (codes "a2") ∷ [])).acts
    ≡ posts 1 2000 ++ reads 1 2000 ++ posts 2 0 ++ Post 4 1 1 ∷ Refused 0 1 0 0
    ∷ posts 3 2000 ++ reads 3 2000 ++ posts 4 0 ++ Refused 1 1 0 0 ∷ []
acts_of_one_trip = refl

-- refusals of an order and of a replace count alike, and other refusals don't
acts_of_two : (after (tripping_at 2)
    (roots 1 900 ++ roots 2 1010 ++ roots 4 1100)
    (order (codes "a1") (codes "1") (codes "90") (codes "10.00")
    ∷ replace (codes "b1") (codes "a1") (codes "101")
    ∷ replace (codes "b2") (codes "zz") (codes "101")
    ∷ order (codes "a2") (codes "1") (codes "20") (codes "10.00") ∷ [])).acts
    ≡ posts 1 900 ++ reads 1 900 ++ Sent 0
    ∷ posts 2 1010 ++ reads 2 1010 ++ posts 3 900 ++ Refused 1 1 0 0 ∷ Refused 2 11 0 0
    ∷ posts 4 1100 ++ reads 4 1100 ++ posts 5 900 ++ Post 4 1 1 ∷ Refused 3 1 0 0 ∷ []
acts_of_two = refl
