-- A table of pairs and its running totals, as one pair is changed.
use Rattle.std.proofs.Common.{◌≡◌, ◌≤◌, ◌<◌, ◌+◌, ◌-◌, ◌*◌, ◌/◌, ◌^◌, ℕ, zero, suc, List, [], ◌∷◌}
use Rattle.std.proofs.Common.{length, refl, true}
use Rattle.std.proofs.Common.{sym, ap, subst, ◌∙◌, ◌⊎◌, inl, inr, arith, get_or, set, length-set}
use Rattle.std.proofs.Common.{get_or-set_same, get_or-set_other, ◌≢◌, All, Bool, false}
use Rattle.std.specs.Prelude.{replicate}
use Rattle.std.proofs.lemmas.List.Elements.{All-set, All-get_or, All-replicate}
use Rattle.std.proofs.lemmas.List.{get_or-replicate, length-replicate, get_or_past}
use Rattle.std.proofs.lemmas.Nat.{div-mul-add}
use Rattle.std.proofs.Math.Nat.{mul-le-mul, add-mul}
use Rattle.exposure_book.specs.declared.pair_sums.PairSums.{PairSums}
use Rattle.exposure_book.specs.declared.pair_table.TreeSums.{TreeSums}
use Rattle.exposure_book.specs.Pairs.{no_sums, all_of, exposure_of_pair}
use Rattle.exposure_book.specs.PairTables.{TableValue, pair_at, exposure_at, in_firm, in_account}
use Rattle.exposure_book.specs.PairTables.{in_symbol, sums_at, with_pair, IsPair, AreTotals}
use Rattle.exposure_book.specs.PairTables.{IsPartOf}
use Rattle.exposure_book.specs.PairTables.{most_exposure}
use Rattle.exposure_book.specs.Sums.{sum_below}
use Rattle.exposure_book.proofs.Pairs.{exposure-le-all}
use Rattle.exposure_book.proofs.PairTotals.{account-moved, account-other, symbol-moved, symbol-other}
use Rattle.exposure_book.proofs.PairTotals.{all-moved, pair-le-account, pair-le-symbol}
use Rattle.exposure_book.proofs.PairTotals.{account-le-all, symbol-le-all, all-none, sum_below-none}

-- a number that was read at a place, by any default
pub index_is : (xs : List ℕ) (i r : ℕ) → i < length xs → r ≡ get_or xs i r → r ≡ get_or xs i 0
index_is [] i r within is = absurd (omega arith)
index_is (x ∷ xs) zero r within is = is
index_is (x ∷ xs) (suc i) r within is = index_is xs i r (omega arith) is

-- the same of a pair, and of whether an account is net
pub pair_is : (xs : List PairSums) (i : ℕ) (r : PairSums) → i < length xs → r ≡ get_or xs i r
    → r ≡ get_or xs i no_sums
pair_is [] i r within is = absurd (omega arith)
pair_is (x ∷ xs) zero r within is = is
pair_is (x ∷ xs) (suc i) r within is = pair_is xs i r (omega arith) is

pub net_is : (xs : List Bool) (i : ℕ) (r : Bool) → i < length xs → r ≡ get_or xs i r
    → r ≡ get_or xs i false
net_is [] i r within is = absurd (omega arith)
net_is (x ∷ xs) zero r within is = is
net_is (x ∷ xs) (suc i) r within is = net_is xs i r (omega arith) is

-- a pair has a place of its own
pub place_within : (accounts symbols a s : ℕ) → a < accounts → s < symbols
    → a * symbols + s < accounts * symbols
place_within accounts symbols a s in_accounts in_symbols =
    let up : (a + 1) * symbols ≤ accounts * symbols = mul-le-mul (omega arith) (omega arith) in
    let split : (a + 1) * symbols ≡ a * symbols + 1 * symbols = add-mul a 1 symbols in
    omega (arith, up, split)

pub same_place : (symbols a s i j : ℕ) → s < symbols → j < symbols
    → i * symbols + j ≡ a * symbols + s → (i ≡ a) × (j ≡ s)
same_place symbols a s i j in_s in_j same =
    let account : i ≡ a =
    sym (div-mul-add i symbols j in_j) ∙ ap (λ n. n / symbols) same
    ∙ div-mul-add a symbols s in_s in
    let row : i * symbols ≡ a * symbols = ap (λ n. n * symbols) account in
    (account, omega (arith, row, same))

-- a table of whole rows, and one of its pairs
module _ (t : TableValue) (shape : length t.pairs ≡ length t.nets * t.symbols) (a s : ℕ)
    (own : IsPair t a s) where
  pub inside : a * t.symbols + s < length t.pairs
  inside = let in_row = place_within (length t.nets) t.symbols a s own.in_accounts own.in_symbols in omega arith

  -- is another one
  module _ (next : PairSums) where
    pub pair_at-own : pair_at (with_pair a s next t) a s ≡ next
    pair_at-own = get_or-set_same t.pairs (a * t.symbols + s) next no_sums inside

    pub pair_at-other : (i j : ℕ) → j < t.symbols → (i ≡ a → j ≡ s → ⊥)
        → pair_at (with_pair a s next t) i j ≡ pair_at t i j
    pair_at-other i j in_row other =
        let ne : i * t.symbols + j ≢ a * t.symbols + s = λ e.
        let same = same_place t.symbols a s i j own.in_symbols in_row e in other same.0 same.1 in
        get_or-set_other t.pairs (a * t.symbols + s) (i * t.symbols + j) next no_sums ne

    others : (i j : ℕ) → i < length t.nets → j < t.symbols → (i ≡ a → j ≡ s → ⊥)
        → exposure_at (with_pair a s next t) i j ≡ exposure_at t i j
    others i j in_accounts in_row other =
        ap (exposure_of_pair (get_or t.nets i false)) (pair_at-other i j in_row other)

    own_exposure : exposure_at (with_pair a s next t) a s
        ≡ exposure_of_pair (get_or t.nets a false) next
    own_exposure = ap (exposure_of_pair (get_or t.nets a false)) pair_at-own

    -- the sums of the three trees, with the exposure of the pair in place of what it was
    pub firm-moved : in_firm (with_pair a s next t) + exposure_at t a s
        ≡ in_firm t + exposure_of_pair (get_or t.nets a false) next
    firm-moved =
        let moved = all-moved (length t.nets) t.symbols (exposure_at t)
        (exposure_at (with_pair a s next t)) a s own.in_accounts own.in_symbols others in
        omega (arith, moved, own_exposure)

    pub account-is : in_account (with_pair a s next t) a + exposure_at t a s
        ≡ in_account t a + exposure_of_pair (get_or t.nets a false) next
    account-is =
        let moved = account-moved (length t.nets) t.symbols (exposure_at t)
        (exposure_at (with_pair a s next t)) a s own.in_accounts own.in_symbols others in
        omega (arith, moved, own_exposure)

    pub symbol-is : in_symbol (with_pair a s next t) s + exposure_at t a s
        ≡ in_symbol t s + exposure_of_pair (get_or t.nets a false) next
    symbol-is =
        let moved = symbol-moved (length t.nets) t.symbols (exposure_at t)
        (exposure_at (with_pair a s next t)) a s own.in_accounts own.in_symbols others in
        omega (arith, moved, own_exposure)

    -- a total with the part of a pair replaced
    pub moved_is : (whole total old new : ℕ) → old ≤ total
        → whole + old ≡ total + new → total - old + new ≡ whole
    moved_is whole total old new part is = omega arith

    account_other : (i : ℕ) → i < length t.nets → (i ≡ a → ⊥)
        → in_account (with_pair a s next t) i ≡ in_account t i
    account_other i in_accounts other =
        account-other (length t.nets) t.symbols (exposure_at t)
        (exposure_at (with_pair a s next t)) a s own.in_accounts own.in_symbols others i in_accounts other

    symbol_other : (j : ℕ) → j < t.symbols → (j ≡ s → ⊥)
        → in_symbol (with_pair a s next t) j ≡ in_symbol t j
    symbol_other j in_symbols other =
        symbol-other (length t.nets) t.symbols (exposure_at t)
        (exposure_at (with_pair a s next t)) a s own.in_accounts own.in_symbols others j in_symbols other

-- a number is another one or not
same_or_not : (i n : ℕ) → (i ≡ n) ⊎ (i ≡ n → ⊥)
same_or_not zero zero = inl refl
same_or_not zero (suc n) = inr (λ e. absurd (omega (arith, e)))
same_or_not (suc i) zero = inr (λ e. absurd (omega (arith, e)))
same_or_not (suc i) (suc n) = elim (same_or_not i n) [
  | inl same ↦ inl (ap (λ k. suc k) same)
  | inr other ↦ inr (λ e. other (omega (arith, e)))
]

-- totals of which one is set to the sum of its tree, and the others are as before
totals_set : (totals : List ℕ) (a v : ℕ) (was now : ℕ → ℕ) → a < length totals → v ≡ now a
    → ((i : ℕ) → i < length totals → get_or totals i 0 ≡ was i)
    → ((i : ℕ) → i < length totals → (i ≡ a → ⊥) → now i ≡ was i)
    → (i : ℕ) → i < length (set totals a v) → get_or (set totals a v) i 0 ≡ now i
totals_set totals a v was now inside is have others i below =
    let there : i < length totals = subst (λ n. i < n) (length-set totals a v) below in
    elim (same_or_not i a) [
      | inl own ↦
          ap (λ k. get_or (set totals a v) k 0) own ∙ get_or-set_same totals a v 0 inside ∙ is
          ∙ ap now (sym own)
      | inr other ↦
          get_or-set_other totals a i v 0 other ∙ have i there ∙ sym (others i there other)
    ]

-- three sums
abbrev pub tree_sums : ℕ → ℕ → ℕ → TreeSums
tree_sums firm account symbol = record { firm = firm; account = account; symbol = symbol }

tree_sums_by : {f f' g g' h h' : ℕ} → f ≡ f' → g ≡ g' → h ≡ h' → tree_sums f g h ≡ tree_sums f' g' h'
tree_sums_by firm account symbol i = tree_sums (firm i) (account i) (symbol i)

-- a total that is read, and one that is moved
pub read_le : (xs : List ℕ) (i r most : ℕ) → i < length xs → r ≡ get_or xs i r
    → get_or xs i 0 ≤ most → r ≤ most
read_le xs i r most within is le = let at = index_is xs i r within is in omega (arith, at, le)

pub moved_fits : (had old new r next : ℕ) → r ≡ had - old + new → IsPartOf had old → new ≤ next
    → next < 2 ^ 126 → r < 2 ^ 127
moved_fits had old new r next is part less fits =
    let most = part.capped in omega (arith, is, most, less, fits)

-- a table with its totals, and one of its pairs
module _ (t : TableValue) (total : ℕ) (by_account by_symbol : List ℕ)
    (totals : AreTotals t total by_account by_symbol) where
  pub account-le : (a : ℕ) → a < length t.nets → get_or by_account a 0 ≤ most_exposure
  account-le a inside =
      let here : a < length by_account = omega (arith, totals.each) in
      let is = totals.accounts a here in
      let firm = account-le-all (length t.nets) t.symbols (exposure_at t) a inside in
      let most = totals.capped in
      omega (arith, is, firm, most)

  pub symbol-le : (s : ℕ) → s < t.symbols → get_or by_symbol s 0 ≤ most_exposure
  symbol-le s inside =
      let here : s < length by_symbol = omega (arith, totals.every) in
      let is = totals.symbols s here in
      let firm = symbol-le-all (length t.nets) t.symbols (exposure_at t) s inside in
      let most = totals.capped in
      omega (arith, is, firm, most)

  module _ (a s : ℕ) (own : IsPair t a s) where
    pub in_accounts : a < length by_account
    in_accounts = let is = totals.each in let below = own.in_accounts in omega (arith, is, below)

    pub in_symbols : s < length by_symbol
    in_symbols = let is = totals.every in let below = own.in_symbols in omega (arith, is, below)

    pub place_inside : a * t.symbols + s < length t.pairs
    place_inside = inside t totals.shape a s own

    pub pair_fits : all_of (pair_at t a s) < 2 ^ 120
    pair_fits =
        All-get_or (λ (p : PairSums). all_of p < 2 ^ 120) t.pairs (a * t.symbols + s) no_sums
        place_inside totals.fit

    -- the exposure of the pair is part of the totals of its trees
    pub firm_part : IsPartOf total (exposure_at t a s)
    firm_part = record {
      within =
          let part = pair-le-account (length t.nets) t.symbols (exposure_at t) a s own.in_symbols in
          let firm = account-le-all (length t.nets) t.symbols (exposure_at t) a own.in_accounts in
          let is = totals.firm in
          omega (arith, part, firm, is);
      capped = let is = totals.firm in let most = totals.capped in omega (arith, is, most);
    }

    pub account_part : IsPartOf (get_or by_account a 0) (exposure_at t a s)
    account_part = record {
      within =
          let part = pair-le-account (length t.nets) t.symbols (exposure_at t) a s own.in_symbols in
          let is = totals.accounts a in_accounts in
          omega (arith, part, is);
      capped = account-le a own.in_accounts;
    }

    pub symbol_part : IsPartOf (get_or by_symbol s 0) (exposure_at t a s)
    symbol_part = record {
      within =
          let part = pair-le-symbol (length t.nets) t.symbols (exposure_at t) a s own.in_accounts in
          let is = totals.symbols s in_symbols in
          omega (arith, part, is);
      capped = symbol-le s own.in_symbols;
    }

    -- what was read of the table is the exposure of the pair
    pub old_exposure : (net : Bool) (pair : PairSums) (old : ℕ) → net ≡ get_or t.nets a net
        → pair ≡ pair_at t a s → old ≡ exposure_of_pair net pair → old ≡ exposure_at t a s
    old_exposure net pair old net_at pair_read old_is =
        let own_net = net_is t.nets a net own.in_accounts net_at in
        old_is ∙ (λ i. exposure_of_pair (own_net i) (pair_read i))

    -- so it is part of the totals that were read
    pub firm_read : (net : Bool) (pair : PairSums) (old : ℕ) → net ≡ get_or t.nets a net
        → pair ≡ pair_at t a s → old ≡ exposure_of_pair net pair → IsPartOf total old
    firm_read net pair old net_at pair_read old_is =
        subst (IsPartOf total) (sym (old_exposure net pair old net_at pair_read old_is)) firm_part

    pub account_read : (net : Bool) (pair : PairSums) (old : ℕ) → net ≡ get_or t.nets a net
        → pair ≡ pair_at t a s → old ≡ exposure_of_pair net pair → (had : ℕ)
        → had ≡ get_or by_account a had → IsPartOf had old
    account_read net pair old net_at pair_read old_is had had_at =
        let was = old_exposure net pair old net_at pair_read old_is in
        let is = index_is by_account a had in_accounts had_at in
        subst (λ n. IsPartOf n old) (sym is)
        (subst (IsPartOf (get_or by_account a 0)) (sym was) account_part)

    pub symbol_read : (net : Bool) (pair : PairSums) (old : ℕ) → net ≡ get_or t.nets a net
        → pair ≡ pair_at t a s → old ≡ exposure_of_pair net pair → (had : ℕ)
        → had ≡ get_or by_symbol s had → IsPartOf had old
    symbol_read net pair old net_at pair_read old_is had had_at =
        let was = old_exposure net pair old net_at pair_read old_is in
        let is = index_is by_symbol s had in_symbols had_at in
        subst (λ n. IsPartOf n old) (sym is)
        (subst (IsPartOf (get_or by_symbol s 0)) (sym was) symbol_part)

    -- with another pair in its place
    module _ (next : PairSums) where
      pub moved-firm : total - exposure_at t a s + exposure_of_pair (get_or t.nets a false) next
          ≡ in_firm (with_pair a s next t)
      moved-firm =
          let part = firm_part.within in
          let is = totals.firm in
          let moved = firm-moved t totals.shape a s own next in
          omega (arith, part, is, moved)

      pub moved-account : get_or by_account a 0 - exposure_at t a s
          + exposure_of_pair (get_or t.nets a false) next
          ≡ in_account (with_pair a s next t) a
      moved-account =
          let part = account_part.within in
          let is = totals.accounts a in_accounts in
          let moved = account-is t totals.shape a s own next in
          omega (arith, part, is, moved)

      pub moved-symbol : get_or by_symbol s 0 - exposure_at t a s
          + exposure_of_pair (get_or t.nets a false) next
          ≡ in_symbol (with_pair a s next t) s
      moved-symbol =
          let part = symbol_part.within in
          let is = totals.symbols s in_symbols in
          let moved = symbol-is t totals.shape a s own next in
          omega (arith, part, is, moved)

      -- the totals of the table with it
      pub totals_with : all_of next < 2 ^ 120 → in_firm (with_pair a s next t) ≤ most_exposure
          → AreTotals (with_pair a s next t) (in_firm (with_pair a s next t))
          (set by_account a (in_account (with_pair a s next t) a))
          (set by_symbol s (in_symbol (with_pair a s next t) s))
      totals_with fits capped = record {
        shape = length-set t.pairs (a * t.symbols + s) next ∙ totals.shape;
        each = length-set by_account a _ ∙ totals.each;
        every = length-set by_symbol s _ ∙ totals.every;
        firm = refl;
        accounts = totals_set by_account a (in_account (with_pair a s next t) a) (in_account t)
            (in_account (with_pair a s next t)) in_accounts refl totals.accounts
            (λ i below other. account_other t totals.shape a s own next i
            (omega (arith, below, totals.each)) other);
        symbols = totals_set by_symbol s (in_symbol (with_pair a s next t) s) (in_symbol t)
            (in_symbol (with_pair a s next t)) in_symbols refl totals.symbols
            (λ j below other. symbol_other t totals.shape a s own next j
            (omega (arith, below, totals.every)) other);
        capped = capped;
        fit = All-set (λ (p : PairSums). all_of p < 2 ^ 120) t.pairs (a * t.symbols + s) next fits
            totals.fit;
      }

      -- the totals once they are written
      pub totals_put : (sums : TreeSums) (place : ℕ)
          → sums ≡ sums_at (with_pair a s next t) a s → place ≡ a * t.symbols + s
          → all_of next < 2 ^ 120 → in_firm (with_pair a s next t) ≤ most_exposure
          → AreTotals (record {
            nets = t.nets;
            symbols = length (set by_symbol s sums.symbol);
            pairs = set t.pairs place next;
          }) sums.firm (set by_account a sums.account) (set by_symbol s sums.symbol)
      totals_put sums place is at fits capped =
          let own_symbol = in_symbol (with_pair a s next t) s in
          let many : length (set by_symbol s own_symbol) ≡ t.symbols =
          length-set by_symbol s own_symbol ∙ totals.every in
          subst (λ (x : TreeSums). AreTotals (record {
            nets = t.nets;
            symbols = length (set by_symbol s x.symbol);
            pairs = set t.pairs place next;
          }) x.firm (set by_account a x.account) (set by_symbol s x.symbol)) (sym is)
          (subst (λ n. AreTotals (record {
            nets = t.nets;
            symbols = length (set by_symbol s own_symbol);
            pairs = set t.pairs n next;
          }) (in_firm (with_pair a s next t))
          (set by_account a (in_account (with_pair a s next t) a)) (set by_symbol s own_symbol))
          (sym at)
          (subst (λ n. AreTotals (record {
            nets = t.nets;
            symbols = n;
            pairs = set t.pairs (a * t.symbols + s) next;
          }) (in_firm (with_pair a s next t))
          (set by_account a (in_account (with_pair a s next t) a)) (set by_symbol s own_symbol))
          (sym many) (totals_with fits capped)))

      -- what was read of the table, and what is moved by it
      pub sums_moved : (net : Bool) (pair : PairSums) (old new had_a had_s : ℕ)
          → net ≡ get_or t.nets a net → pair ≡ pair_at t a s → old ≡ exposure_of_pair net pair
          → new ≡ exposure_of_pair net next → had_a ≡ get_or by_account a had_a
          → had_s ≡ get_or by_symbol s had_s → (f g h : ℕ) → f ≡ total - old + new
          → g ≡ had_a - old + new → h ≡ had_s - old + new
          → tree_sums f g h ≡ sums_at (with_pair a s next t) a s
      sums_moved net pair old new had_a had_s net_at pair_read old_is new_is a_at s_at f g h f_is g_is h_is
          =
          let was = old_exposure net pair old net_at pair_read old_is in
          let at_a = index_is by_account a had_a in_accounts a_at in
          let at_s = index_is by_symbol s had_s in_symbols s_at in
          let now : new ≡ exposure_of_pair (get_or t.nets a false) next =
          new_is ∙ ap (λ (b : Bool). exposure_of_pair b next)
          (net_is t.nets a net own.in_accounts net_at) in
          tree_sums_by
          (f_is ∙ (λ i. total - was i + now i) ∙ moved-firm)
          (g_is ∙ (λ i. at_a i - was i + now i) ∙ moved-account)
          (h_is ∙ (λ i. at_s i - was i + now i) ∙ moved-symbol)

-- a table with no order
below_or_not : (i n : ℕ) → (i < n) ⊎ (n ≤ i)
below_or_not i n = grind arith

module _ (nets : List Bool) (symbols : ℕ) where
  abbrev pub fresh : TableValue
  fresh = record {
    nets = nets;
    symbols = symbols;
    pairs = replicate (length nets * symbols) no_sums;
  }

  pub none_at : (n i : ℕ) → get_or (replicate n no_sums) i no_sums ≡ no_sums
  none_at n i = elim (below_or_not i n) [
    | inl below ↦ get_or-replicate n i no_sums no_sums below
    | inr above ↦ get_or_past (replicate n no_sums) i no_sums
        (omega (arith, above, length-replicate n no_sums))
  ]

  none_by : (net : Bool) → exposure_of_pair net no_sums ≡ 0
  none_by true = refl
  none_by false = refl

  pub nothing : (a s : ℕ) → exposure_at fresh a s ≡ 0
  nothing a s =
      ap (exposure_of_pair (get_or nets a false))
      (none_at (length nets * symbols) (a * symbols + s))
      ∙ none_by (get_or nets a false)

  fresh_totals : AreTotals fresh 0 (replicate (length nets) 0) (replicate symbols 0)
  fresh_totals = record {
    shape = length-replicate (length nets * symbols) no_sums;
    each = length-replicate {A = ℕ} (length nets) 0;
    every = length-replicate {A = ℕ} symbols 0;
    firm = sym (all-none (length nets) symbols (exposure_at fresh) nothing);
    accounts = λ a below.
        get_or-replicate (length nets) a 0 0 (omega (arith, below, length-replicate {A = ℕ} (length nets) 0))
        ∙ sym (sum_below-none symbols (λ s. exposure_at fresh a s) (λ s inside. nothing a s));
    symbols = λ s below.
        get_or-replicate symbols s 0 0 (omega (arith, below, length-replicate {A = ℕ} symbols 0))
        ∙ sym (sum_below-none (length nets) (λ a. exposure_at fresh a s) (λ a inside. nothing a s));
    capped = omega (arith, all-none (length nets) symbols (exposure_at fresh) nothing);
    fit = All-replicate (λ (p : PairSums). all_of p < 2 ^ 120) (length nets * symbols) no_sums
        (omega arith);
  }

  pub new_totals : (pairs : List PairSums) (accounts by_symbol : List ℕ)
      → pairs ≡ replicate (length nets * symbols) no_sums → accounts ≡ replicate (length nets) 0
      → by_symbol ≡ replicate symbols 0
      → AreTotals (record { nets = nets; symbols = length by_symbol; pairs = pairs }) 0 accounts
      by_symbol
  new_totals pairs accounts by_symbol pairs_are accounts_are symbols_are =
      let many : symbols ≡ length by_symbol =
      sym (ap length symbols_are ∙ length-replicate {A = ℕ} symbols 0) in
      subst (λ (p : List PairSums).
      AreTotals (record { nets = nets; symbols = length by_symbol; pairs = p }) 0 accounts by_symbol)
      (sym pairs_are)
      (subst (λ n. AreTotals (record {
        nets = nets;
        symbols = n;
        pairs = replicate (length nets * symbols) no_sums;
      }) 0 accounts by_symbol) many
      (subst (λ (xs : List ℕ). AreTotals fresh 0 xs by_symbol) (sym accounts_are)
      (subst (λ (xs : List ℕ). AreTotals fresh 0 (replicate (length nets) 0) xs) (sym symbols_are)
      fresh_totals)))
