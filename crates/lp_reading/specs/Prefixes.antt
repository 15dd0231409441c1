-- The least of `__`, `___` and so on that doesn't stand in a text.
use Rattle.std.specs.Prelude.{◌≡◌, ℕ, ◌<◌, ◌≤◌, List, [], ◌∷◌, ◌++◌, zero, suc}

-- that many `_`
abbrev pub underscores : ℕ → List ℕ
underscores zero = []
underscores (suc n) = 95 ∷ underscores n

-- these bytes stand in the text
pub record StandsIn (text inside : List ℕ) : Type 0 where
  pub front : List ℕ
  pub back : List ℕ
  pub split : text ≡ front ++ (inside ++ back)

-- the longest run of `_` in the text has this length
pub record IsLongestRun (text : List ℕ) (longest : ℕ) : Type 0 where
  pub stands : StandsIn text (underscores longest)
  pub most : (n : ℕ) → StandsIn text (underscores n) → n ≤ longest

-- the least of `__`, `___` and so on that doesn't stand in the text
pub record IsFreePrefix (text prefix : List ℕ) : Type 0 where
  pub count : ℕ
  pub is : prefix ≡ underscores count
  pub two : 2 ≤ count
  pub free : ¬ StandsIn text prefix
  pub least : (n : ℕ) → 2 ≤ n → n < count → StandsIn text (underscores n)
