-- For a closure that `write_list` is given: it lives as long as what it captures.
use Rattle.std.specs.Prelude.{List, ℕ, [], ◌++◌}
use contract.BorrowLft.{◌⊑◌, ⊑_meet, ⊑_static}

-- one more capture
more : {κ a r : List ℕ} → κ ⊑ a → κ ⊑ r → κ ⊑ a ++ [] ++ r
more {κ} {a} {r} x y = ⊑_meet κ (a ++ []) r (⊑_meet κ a [] x (⊑_static κ)) y

pub four_within : {κ a b c d : List ℕ} → κ ⊑ a → κ ⊑ b → κ ⊑ c → κ ⊑ d
    → κ ⊑ (a ++ [] ++ (b ++ [] ++ (c ++ [] ++ (d ++ [] ++ [])))) ++ (a ++ [] ++ (b ++ [] ++ (c ++ [] ++ (d ++ [] ++ []))))
four_within {κ} {a} {b} {c} {d} f g h k =
    let q = more {r = b ++ [] ++ (c ++ [] ++ (d ++ [] ++ []))} f (more {r = c ++ [] ++ (d ++ [] ++ [])} g (more {r = d ++ [] ++ []} h (more {r = []} k (⊑_static κ)))) in
    ⊑_meet κ (a ++ [] ++ (b ++ [] ++ (c ++ [] ++ (d ++ [] ++ [])))) (a ++ [] ++ (b ++ [] ++ (c ++ [] ++ (d ++ [] ++ [])))) q q

pub five_within : {κ a b c d e : List ℕ} → κ ⊑ a → κ ⊑ b → κ ⊑ c → κ ⊑ d → κ ⊑ e
    → κ ⊑ (a ++ [] ++ (b ++ [] ++ (c ++ [] ++ (d ++ [] ++ (e ++ [] ++ []))))) ++ (a ++ [] ++ (b ++ [] ++ (c ++ [] ++ (d ++ [] ++ (e ++ [] ++ [])))))
five_within {κ} {a} {b} {c} {d} {e} f g h k l =
    let q =
    more {r = b ++ [] ++ (c ++ [] ++ (d ++ [] ++ (e ++ [] ++ [])))} f
    (more {r = c ++ [] ++ (d ++ [] ++ (e ++ [] ++ []))} g (more {r = d ++ [] ++ (e ++ [] ++ [])} h (more {r = e ++ [] ++ []} k (more {r = []} l (⊑_static κ)))))
    in
    ⊑_meet κ (a ++ [] ++ (b ++ [] ++ (c ++ [] ++ (d ++ [] ++ (e ++ [] ++ []))))) (a ++ [] ++ (b ++ [] ++ (c ++ [] ++ (d ++ [] ++ (e ++ [] ++ []))))) q q
