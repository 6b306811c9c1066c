-- The code's rooms are those of specs/.
use Rattle.std.specs.Prelude.{◌≡◌, refl}
use Rattle.requests.specs.declared.names.TheConstants.{TEXT, WORDS}
use Rattle.requests.specs.Sizes.{text_bytes, line_words}

pub text_is : TEXT ≡ text_bytes
text_is = refl

pub words_are : WORDS ≡ line_words
words_are = refl
