-- What a fold has to keep.
use Rattle.std.specs.Prelude.{◌≡◌, ℕ, ◌+◌, ◌<◌, ◌≤◌, Bool, true}
use Rattle.fold_law.specs.declared.limits.TheConstants.{SESSIONS, VALUES}

-- two values that are joins of at most `SESSIONS` leaf values together
abbrev pub CanJoin : (ℕ → ℕ → Type 0) → ℕ → ℕ → Type 0
CanJoin under a b = (m : ℕ) × (n : ℕ) × (m + n ≤ SESSIONS) × under m a × under n b

-- `under m x` says that x can be the join of at most m leaf values. The laws speak of such values.
pub record FoldLaws (unit cap : ℕ) (join : ℕ → ℕ → ℕ) (le : ℕ → ℕ → Bool) (under : ℕ → ℕ → Type 0)
    : Type 0 where
  -- the unit and each leaf value are under; more leaves allow more, and never a value past a word's
  pub unit_under : (m : ℕ) → under m unit
  pub leaf_under : (x : ℕ) → x ≤ cap → under 1 x
  pub under_more : (m n x : ℕ) → m ≤ n → under m x → under n x
  pub under_values : (m x : ℕ) → m ≤ SESSIONS → under m x → x < VALUES
  -- joining
  pub join_under : (m n a b : ℕ) → m + n ≤ SESSIONS → under m a → under n b
      → under (m + n) (join a b)
  pub unit_left : (m a : ℕ) → m ≤ SESSIONS → under m a → join unit a ≡ a
  pub unit_right : (m a : ℕ) → m ≤ SESSIONS → under m a → join a unit ≡ a
  pub regroups : (m n o a b c : ℕ) → (m + n) + o ≤ SESSIONS → under m a → under n b → under o c
      → join (join a b) c ≡ join a (join b c)
  -- the order, in which joining rises
  pub le_itself : (m a : ℕ) → m ≤ SESSIONS → under m a → le a a ≡ true
  pub le_through : (m a b c : ℕ) → m ≤ SESSIONS → under m a → under m b → under m c
      → le a b ≡ true → le b c ≡ true → le a c ≡ true
  pub le_both : (m a b : ℕ) → m ≤ SESSIONS → under m a → under m b
      → le a b ≡ true → le b a ≡ true → a ≡ b
  pub join_rises : (m n a b c d : ℕ) → m + n ≤ SESSIONS
      → under m a → under m b → under n c → under n d
      → le a b ≡ true → le c d ≡ true → le (join a c) (join b d) ≡ true
