-- The scope's tables, as bytes.
use Rattle.std.specs.Prelude.{ℕ, List, [], ◌∷◌, ◌++◌}

-- a word of one byte
abbrev small : ℕ → List ℕ
small n = n ∷ 0 ∷ 0 ∷ 0 ∷ []

-- priority: setting, X, C, S, D, T
abbrev pub task : ℕ → ℕ → ℕ → ℕ → ℕ → ℕ → ℕ → List ℕ
task p setting x c s d t = 1 ∷ p ∷ setting ∷ x ∷ (small c ++ (small s ++ (small d ++ small t)))

-- resource 1 with N×L
abbrev pub usage : ℕ → ℕ → ℕ → List ℕ
usage p n l = 2 ∷ p ∷ 1 ∷ n ∷ small l

abbrev pub end : List ℕ
end = 3 ∷ []

-- A, and B with a setting for task 3
abbrev pub A : ℕ → List ℕ
A setting = task 3 setting 1 2 3 20 20 ++ (task 2 0 0 4 0 30 30 ++ (task 1 0 0 5 0 40 40 ++ (usage 3 1 1 ++ (usage 1 2 2 ++ end))))

abbrev pub C : List ℕ
C = task 1 0 0 5 0 5 5 ++ end

abbrev pub D : List ℕ
D = task 1 0 1 5 1 5 5 ++ end

-- E, and F with another deadline and period for task 1
abbrev pub E : ℕ → List ℕ
E d = task 2 0 0 3 0 5 5 ++ (task 1 0 0 3 0 d d ++ end)

abbrev pub G : List ℕ
G = task 3 1 1 2 1 50 50 ++ (task 2 0 0 4 0 100 100 ++ (task 1 0 0 5 0 100 100 ++ (usage 3 1 1 ++ (usage 2 1 3 ++ (usage 1 1 4 ++ end)))))

abbrev pub H : List ℕ
H = task 2 0 1 2 1 20 20 ++ (task 1 0 0 3 0 20 20 ++ (usage 2 1 1 ++ (usage 1 1 3 ++ end)))
