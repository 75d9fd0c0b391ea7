-- An answer's fields in the struct that C sees.
-- Assumes nothing.
use Rattle.encoder.specs.declared.Encoded.{Encoded}
use Rattle.decoder.specs.declared.Decoded.{Decoded}
use Rattle.aztec_c.specs.declared.AztecEncoded.{AztecEncoded}
use Rattle.aztec_c.specs.declared.AztecDecoded.{AztecDecoded}

unfoldable pub encoded_fields : Encoded → AztecEncoded
encoded_fields e =
    record { number = e.number; shape = e.shape; side = e.side; data_words = e.data_words; check_words = e.check_words }

unfoldable pub decoded_fields : Decoded → AztecDecoded
decoded_fields d =
    record { number = d.number; length = d.length; shape = d.shape; position = d.position; unread = d.unread; wrong = d.wrong }
