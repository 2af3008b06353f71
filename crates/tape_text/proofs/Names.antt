-- The text of a content begins with the name of its kind.
-- Assumes that the text was cut at its first blank.
use Rattle.std.proofs.Common.{◌≡◌, ℕ, ◌<◌, true, List, ◌∷◌, ◌++◌, length, get_or, codes, Ok, Result, sym, refl, ◌∙◌, subst, arith}
use Rattle.tape.specs.declared.kinds.Kind.{Kind}
use Rattle.tape.specs.declared.kinds.NoKind.{NoKind}
use Rattle.tape.specs.declared.contents.Content.{Content}
use Rattle.tape.specs.declared.contents.Content.TheVariants.{Head, Link, PlanEnd, Post, Shut, Try, Keep, Withdraw, Quote, Route}
use Rattle.tape.specs.Kinds.{kind_name, Named}
use Rattle.tape.specs.Contents.{kind_of}
use Rattle.tape.specs.Texts.{ends_words, lane_words, head_words, text_of}
use Rattle.tape_text.specs.Parses.{CutIs}
use Rattle.tape_text.proofs.Cuts.{cut_none, lacks, lacks_char}
use Rattle.tape_text.proofs.Fields.{cut_name}

module _ (text before behind : List ℕ) (k : CutIs text 32 before behind) where
  name_first : (name words : List ℕ) → lacks name 32 ≡ true → text ≡ name ++ (32 ∷ words) → before ≡ name
  name_first name words h e = (cut_name text before behind name words k h e).0

  name_only : (name : List ℕ) → lacks name 32 ≡ true → text ≡ name → before ≡ name
  name_only name h e = cut_none text 32 before behind (omega arith) k (subst (λ v. (i : ℕ) → i < length v → get_or v i 0 ≡ 32 → ⊥) (sym e) (lacks_char name 32 h)) ∙ e

  name_is : (c : Content) → text ≡ text_of c → before ≡ kind_name (kind_of c)
  name_is (Head h) e = name_first (codes "head") (head_words h) refl e
  name_is (Link d) e = name_first (codes "link") (ends_words d) refl e
  name_is PlanEnd e = name_only (codes "plan-end") refl e
  name_is (Post l) e = name_first (codes "post") (lane_words l) refl e
  name_is (Shut d) e = name_first (codes "shut") (ends_words d) refl e
  name_is (Try l) e = name_first (codes "try") (lane_words l) refl e
  name_is Keep e = name_only (codes "keep") refl e
  name_is Withdraw e = name_only (codes "withdraw") refl e
  name_is (Quote d) e = name_first (codes "quote") (ends_words d) refl e
  name_is (Route d) e = name_first (codes "route") (ends_words d) refl e

  -- the name gives back the content's own kind
  pub own_kind : (c : Content) (r : Result Kind NoKind) → Named before r → text ≡ text_of c → r ≡ Ok (kind_of c)
  own_kind c r named e = named.back (kind_of c) (name_is c e)
