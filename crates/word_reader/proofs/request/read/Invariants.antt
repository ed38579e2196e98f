use Rattle.std.proofs.Common.{◌≡◌, drop}
use Rattle.word_reader.specs.Requests.{read_words}
use Rattle.word_reader.proofs.request.read.Given as goal

abbrev pub invariant-loop-word : goal.invariant-loop-word
invariant-loop-word l = read_words l.given (drop l.word-index l.words) ≡ read_words l.fn.given l.words
