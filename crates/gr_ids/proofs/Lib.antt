pub mod UuidTexts
