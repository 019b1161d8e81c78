mod Below
