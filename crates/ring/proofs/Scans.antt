-- The scans over the links: the links as a test, the third terminal so far, a relation to one of the links.
-- Assumes nothing.
use Rattle.std.proofs.Common.{◌≡◌, ℕ, zero, suc, ◌+◌, ◌<◌, ◌≤◌, max, Bool, true, false, ◌&&◌, ◌||◌, eqb, ◌⊎◌, List, [], ◌∷◌, ◌++◌, length, get_or, take, Decides, sym, refl, ap, ◌∙◌, subst, inl, inr, ⊎_elim, le_of_suc-le-suc, arith}
use Rattle.std.proofs.lemmas.Bool.{or_cases, or_left, or_right, cases_lt}
use Rattle.std.proofs.lemmas.Bool.Decides.{Decides-or, Decides-and, Decides-eqb}
use Rattle.std.proofs.lemmas.List.{take_more, length-append}
use Rattle.std.proofs.Math.ListN.{get_or-append}
use Rattle.std.proofs.Math.Seq.{get_or-append_seam}
use Rattle.std.specs.Bool.{MatchBool}
use Rattle.std.specs.List.{AllWithin, HoldsAt}
use Rattle.trips.specs.Links.{Ends, Named}
use Rattle.triangulation.specs.Filling.{Third}
use Rattle.ring.specs.declared.Link.{Link}
use Rattle.ring.specs.Linked.{ends_of, ends_at, link_at, Linked, joins, JoinsAreLinks}
use Rattle.ring.specs.Faults.{Among}

-- The test of one link.
abbrev pub is_named : Link → ℕ → ℕ → Bool
is_named l a b = (eqb l.from a && eqb l.to b) || (eqb l.from b && eqb l.to a)

pub decides_named : (l : Link) (a b : ℕ) → Decides (is_named l a b) (Named (ends_of l) a b)
decides_named l a b =
    Decides-or _ _
    (Decides-and _ _ (Decides-eqb l.from a) (Decides-eqb l.to b))
    (Decides-and _ _ (Decides-eqb l.from b) (Decides-eqb l.to a))

or_assoc : (x y z : Bool) → (x || (y || z)) ≡ ((x || y) || z)
or_assoc true y z = refl
or_assoc false y z = refl

or_false : (x : Bool) → x ≡ (x || false)
or_false true = refl
or_false false = refl

joins_push : (links : List Link) (l : Link) (a b : ℕ) → joins (links ++ l ∷ []) a b ≡ (joins links a b || is_named l a b)
joins_push [] l a b = sym (or_false (is_named l a b))
joins_push (x ∷ links) l a b =
    ap (λ (r : Bool). is_named x a b || r) (joins_push links l a b) ∙ or_assoc (is_named x a b) (joins links a b) (is_named l a b)

-- One more link.
pub joins_more : (links : List Link) (i a b : ℕ) (d : Link) → i < length links → joins (take (i + 1) links) a b ≡ (joins (take i links) a b || is_named (get_or links i d) a b)
joins_more links i a b d h = ap (λ (ls : List Link). joins ls a b) (take_more links i d h) ∙ joins_push (take i links) (get_or links i d) a b

pub links_joined : (links : List Link) (a b : ℕ) → joins links a b ≡ true → Linked links a b
links_joined [] a b e = absurd (let z : ◌≡◌ {A = ℕ} 0 1 = cc in omega arith)
links_joined (l ∷ links) a b e =
    ⊎_elim
    (λ (p : is_named l a b ≡ true). (0, omega arith, (decides_named l a b).0 p))
    (λ (p : joins links a b ≡ true). let w = links_joined links a b p in (suc w.0, (let k = w.1 in omega arith), w.2))
    (or_cases (is_named l a b) (joins links a b) e)

pub joined_links : (links : List Link) (a b k : ℕ) → k < length links → Named (ends_at links k) a b → joins links a b ≡ true
joined_links [] a b k h n = absurd (omega arith)
joined_links (l ∷ links) a b zero h n = or_left (is_named l a b) (joins links a b) ((decides_named l a b).1 n)
joined_links (l ∷ links) a b (suc k) h n = or_right (is_named l a b) (joins links a b) (joined_links links a b k (le_of_suc-le-suc h) n)

pub joins_are_links : JoinsAreLinks
joins_are_links links a b = (links_joined links a b, λ w. joined_links links a b w.0 w.1 w.2)

-- The third terminal of the side {a, b} by these links.
pub record ThirdBy (a b : ℕ) (links : List Link) (c : ℕ) : Type 0 where
  pub above : a < c
  pub below : c < b
  pub drawn : (c ≡ a + 1) ⊎ (joins links a c ≡ true)
  pub largest : (d : ℕ) → joins links a d ≡ true → d < b → d ≤ c

pub third_none : (a b : ℕ) → a + 1 < b → ThirdBy a b [] (a + 1)
third_none a b h = record { above = omega arith; below = omega arith; drawn = inl refl; largest = λ d e q. absurd (let z : ◌≡◌ {A = ℕ} 0 1 = cc in omega arith) }

pub third_all : (a b : ℕ) (links : List Link) (c : ℕ) → ThirdBy a b links c → Third (joins links) a b c
third_all a b links c s = record { above = s.above; below = s.below; drawn = s.drawn; largest = λ d p q e. let m = s.largest d e q in omega arith }

-- One more link, which alone has the third terminal e.
pub third_more : (a b : ℕ) (links : List Link) (l : Link) (c e m : ℕ) → ThirdBy a b links c → e < b → (e ≡ a + 1) ⊎ Named (ends_of l) a e
    → ((d : ℕ) → d < b → Named (ends_of l) a d → d ≤ e) → m ≡ max c e → ThirdBy a b (links ++ l ∷ []) m
third_more a b links l c e m s below drawn largest m_is =
    let u = s.above in
    let v = s.below in
    record {
      above = omega arith;
      below = omega arith;
      drawn = ⊎_elim
          (λ (h : c < e).
          let z : e ≡ m = omega arith in
          subst (λ (y : ℕ). (y ≡ a + 1) ⊎ (joins (links ++ l ∷ []) a y ≡ true)) z
          (⊎_elim
          (λ (p : e ≡ a + 1). inl p)
          (λ (p : Named (ends_of l) a e). inr (joins_push links l a e ∙ or_right (joins links a e) (is_named l a e) ((decides_named l a e).1 p)))
          drawn))
          (λ (h : e ≤ c).
          let z : c ≡ m = omega arith in
          subst (λ (y : ℕ). (y ≡ a + 1) ⊎ (joins (links ++ l ∷ []) a y ≡ true)) z
          (⊎_elim
          (λ (p : c ≡ a + 1). inl p)
          (λ (p : joins links a c ≡ true). inr (joins_push links l a c ∙ or_left (joins links a c) (is_named l a c) p))
          s.drawn))
          (cases_lt c e);
      largest = λ d p q. ⊎_elim
          (λ (h : joins links a d ≡ true). let y = s.largest d h q in omega arith)
          (λ (h : is_named l a d ≡ true). let y = largest d q ((decides_named l a d).0 h) in omega arith)
          (or_cases (joins links a d) (is_named l a d) (sym (joins_push links l a d) ∙ p));
    }

abbrev pub no_link : Link
no_link = record { from = 0; to = 0 }

-- A relation to one of the links.
module _ (R : Ends → Ends → Type 0) (e : Ends) where
  pub among_none : Decides false (Among R e [])
  among_none = (λ z. absurd (let y : ◌≡◌ {A = ℕ} 0 1 = cc in omega arith), λ h. let k = h.1 in absurd (omega arith))

  pub among_more : (links : List Link) (l : Link) (f t g : Bool) → Decides f (Among R e links) → Decides t (R e (ends_of l)) → g ≡ (f || t) → Decides g (Among R e (links ++ l ∷ []))
  among_more links l f t g d t_is g_is =
      let n = length-append links (l ∷ []) in (
        λ h. ⊎_elim
            (λ (p : f ≡ true).
            let w = d.0 p in
            let k = w.1 in
            (w.0, omega arith, subst (λ (x : Link). R e (ends_of x)) (sym (get_or-append links (l ∷ []) no_link w.0 w.1)) w.2))
            (λ (p : t ≡ true). (length links, omega arith, subst (λ (x : Link). R e (ends_of x)) (sym (get_or-append_seam links l [] no_link)) (t_is.0 p)))
            (or_cases f t (sym g_is ∙ h)),
        λ w. g_is ∙ ⊎_elim
            (λ (p : w.0 < length links). or_left f t (d.1 (w.0, p, subst (λ (x : Link). R e (ends_of x)) (get_or-append links (l ∷ []) no_link w.0 p) w.2)))
            (λ (p : length links ≤ w.0).
            let k = w.1 in
            let z : w.0 ≡ length links = omega arith in
            or_right f t (t_is.1 (subst (λ (x : Link). R e (ends_of x)) (ap (link_at (links ++ l ∷ [])) z ∙ get_or-append_seam links l [] no_link) w.2)))
            (cases_lt w.0 (length links)),
      )

  -- What a search for such a link has answered.
  pub among_from_any : (links : List Link) (b : Bool)
      → MatchBool b ((k : ℕ) × (k < length links) × HoldsAt (λ x. R e (ends_of x)) links k) (AllWithin (λ x. R e (ends_of x) → ⊥) links 0 (length links))
      → Decides b (Among R e links)
  among_from_any links true w = (λ z. (w.0, w.1, w.2 no_link), λ z. refl)
  among_from_any links false w = (λ z. absurd (let y : ◌≡◌ {A = ℕ} 0 1 = cc in omega arith), λ z. absurd (w z.0 no_link (omega arith) z.1 z.2))
