-- A record's body is as long as its kind says.
-- Assumes nothing.
use Rattle.std.proofs.Common.{◌≡◌, length, refl}
use Rattle.tape.specs.declared.contents.Content.{Content}
use Rattle.tape.specs.declared.contents.Content.TheVariants.{Head, Link, PlanEnd, Post, Shut, Try, Keep, Withdraw, Quote, Route}
use Rattle.tape.specs.Kinds.{body_length}
use Rattle.tape.specs.Contents.{kind_of, body_of}

pub body_long : (c : Content) → length (body_of c) ≡ body_length (kind_of c)
body_long (Head h) = refl
body_long (Link e) = refl
body_long PlanEnd = refl
body_long (Post l) = refl
body_long (Shut e) = refl
body_long (Try l) = refl
body_long Keep = refl
body_long Withdraw = refl
body_long (Quote e) = refl
body_long (Route e) = refl
